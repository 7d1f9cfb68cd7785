-- The samples of a whole tone add up to 0: eleven half turns later every sample has the other sign. Assumes nothing.
use Rattle.std.proofs.Common.{◌≡◌, ℕ, zero, suc, ◌+◌, ◌*◌, ◌<◌, replicate, ◌++◌, ℤ, pos, neg_ℤ, ◌+ℤ◌, refl, sym, ap, ◌∙◌, arith}
use Rattle.std.specs.Prelude.{fold}
use Rattle.std.proofs.lemmas.Int.{ints}
use Rattle.std.proofs.lemmas.Bool.Decides.{nat_tests}
use Rattle.court.specs.declared.cue.Cue.{Cue}
use Rattle.court.specs.declared.cue.Cue.TheVariants.{Nothing, Paddle, Wall, Point}
use Rattle.sound.specs.Tones.{Sounding, frames_of, tones_of}
use Rattle.sound.specs.Sound.{tone_sample, samples_from, frame_samples, samples_of, SumsToZero}
use Rattle.sound.proofs.Lasting.{one_more}
use Rattle.sound.proofs.Writes.{samples_more, samples_none}

-- ---- sums of samples

-- the sum of n samples of a tone, from sample i on
abbrev total : Cue → ℕ → ℕ → ℤ
total k i zero = pos 0
total k i (suc n) = tone_sample k i +ℤ total k (suc i) n

fold_total : (k : Cue) (a : ℤ) (i n : ℕ) → fold ◌+ℤ◌ a (samples_from k i n) ≡ a +ℤ total k i n
unfolding samples_from
fold_total k a i zero = omega (arith, ints)
fold_total k a i (suc n) = let h = fold_total k (a +ℤ tone_sample k i) (suc i) n in omega (arith, ints)

total_more : (k : Cue) (i m n : ℕ) → total k i (m + n) ≡ total k i m +ℤ total k (i + m) n
total_more k i zero n =
    let e : i ≡ i + 0 = omega arith in
    let z : 0 + n ≡ n = omega arith in
    let h : total k i (0 + n) ≡ total k (i + 0) n = ap (total k i) z ∙ ap (λ q. total k q n) e in
    omega (arith, ints)
total_more k i (suc m) n =
    let z : suc m + n ≡ suc (m + n) = omega arith in
    let e : suc i + m ≡ i + suc m = omega arith in
    let g : total k i (suc m + n) ≡ tone_sample k i +ℤ total k (suc i) (m + n) = ap (total k i) z in
    let h = total_more k (suc i) m n in
    let f : total k (suc i + m) n ≡ total k (i + suc m) n = ap (λ q. total k q n) e in
    omega (arith, ints)

-- where every sample has the other sign p samples later, n samples and n samples p later add up to 0
opposite : (k : Cue) (p i n : ℕ) → ((j : ℕ) → tone_sample k (j + p) ≡ neg_ℤ (tone_sample k j)) → total k i n +ℤ total k (i + p) n ≡ pos 0
opposite k p i zero h = omega (arith, ints)
opposite k p i (suc n) h =
    let s = h i in
    let e : suc i + p ≡ suc (i + p) = omega arith in
    let f : total k (suc i + p) n ≡ total k (suc (i + p)) n = ap (λ q. total k q n) e in
    let r = opposite k p (suc i) n h in
    omega (arith, ints)

-- so that twice as many add up to 0, and as often as one likes
periods : (k : Cue) (p i c : ℕ) → ((j : ℕ) → tone_sample k (j + p) ≡ neg_ℤ (tone_sample k j)) → total k i (c * (p + p)) ≡ pos 0
periods k p i zero h = let e : 0 * (p + p) ≡ 0 = omega arith in ap (total k i) e
periods k p i (suc c) h =
    let e : suc c * (p + p) ≡ (p + p) + c * (p + p) = grind arith in
    let g : total k i (suc c * (p + p)) ≡ total k i ((p + p) + c * (p + p)) = ap (total k i) e in
    let a = total_more k i (p + p) (c * (p + p)) in
    let b = total_more k i p p in
    let o = opposite k p i p h in
    let r = periods k p (i + (p + p)) c h in
    omega (arith, ints)

-- ---- eleven half turns

turned_paddle : (i : ℕ) → tone_sample Paddle (i + 600) ≡ neg_ℤ (tone_sample Paddle i)
unfolding tone_sample
turned_paddle i = grind (arith, ints, nat_tests)

turned_wall : (i : ℕ) → tone_sample Wall (i + 1200) ≡ neg_ℤ (tone_sample Wall i)
unfolding tone_sample
turned_wall i = grind (arith, ints, nat_tests)

turned_point : (i : ℕ) → tone_sample Point (i + 2400) ≡ neg_ℤ (tone_sample Point i)
unfolding tone_sample
turned_point i = grind (arith, ints, nat_tests)

-- ---- whole tones

-- the frames of a tone, one behind the other
heard : (k : Cue) (d n : ℕ) → d + n < frames_of k → samples_of (tones_of (record { kind = k; age = d }) (replicate n Nothing)) ≡ samples_from k (800 * (d + 1)) (800 * n)
unfolding frame_samples
heard k d zero h = sym (samples_none k (800 * (d + 1)))
heard k d (suc n) h =
    let e : 800 + 800 * n ≡ 800 * suc n = omega arith in
    let f : 800 * (d + 1) + 800 ≡ 800 * ((d + 1) + 1) = omega arith in
    ap (λ (t : Sounding). frame_samples t ++ samples_of (tones_of t (replicate n Nothing))) (one_more k d (omega arith))
    ∙ ap (λ l. samples_from k (800 * (d + 1)) 800 ++ l) (heard k (d + 1) n (omega arith) ∙ ap (λ q. samples_from k q (800 * n)) (sym f))
    ∙ sym (samples_more k (800 * (d + 1)) 800 (800 * n))
    ∙ ap (samples_from k (800 * (d + 1))) e

whole_tone : (k : Cue) (n : ℕ) → n < frames_of k → frame_samples (record { kind = k; age = 0 }) ++ samples_of (tones_of (record { kind = k; age = 0 }) (replicate n Nothing)) ≡ samples_from k 0 (800 + 800 * n)
unfolding frame_samples
whole_tone k n h = ap (λ l. samples_from k 0 800 ++ l) (heard k 0 n (omega arith)) ∙ sym (samples_more k 0 800 (800 * n))

sums : (k : Cue) (n p c : ℕ) → n < frames_of k → 800 + 800 * n ≡ c * (p + p) → ((j : ℕ) → tone_sample k (j + p) ≡ neg_ℤ (tone_sample k j)) → fold ◌+ℤ◌ (pos 0) (frame_samples (record { kind = k; age = 0 }) ++ samples_of (tones_of (record { kind = k; age = 0 }) (replicate n Nothing))) ≡ pos 0
sums k n p c h e t =
    let f = fold_total k (pos 0) 0 (800 + 800 * n) in
    let z : total k 0 (800 + 800 * n) ≡ pos 0 = ap (total k 0) e ∙ periods k p 0 c t in
    let g : fold ◌+ℤ◌ (pos 0) (samples_from k 0 (800 + 800 * n)) ≡ pos 0 = omega (arith, ints) in
    ap (fold ◌+ℤ◌ (pos 0)) (whole_tone k n h) ∙ g

pub sums_to_zero : SumsToZero
sums_to_zero t Nothing h = absurd (h refl)
sums_to_zero t Paddle h = sums Paddle 5 600 4 (omega arith) (omega arith) turned_paddle
sums_to_zero t Wall h = sums Wall 5 1200 2 (omega arith) (omega arith) turned_wall
sums_to_zero t Point h = sums Point 29 2400 5 (omega arith) (omega arith) turned_point
