-- How long tones last. Assumes nothing.
use Rattle.std.proofs.Common.{◌≡◌, ℕ, zero, suc, ◌+◌, ◌<◌, ◌≤◌, cond, replicate, inl, inr, refl, ap, ◌∙◌, arith}
use Rattle.std.proofs.lemmas.Bool.{cases_lt, le-ltb, lt-ltb}
use Rattle.court.specs.declared.cue.Cue.{Cue}
use Rattle.court.specs.declared.cue.Cue.TheVariants.{Nothing, Paddle, Wall, Point}
use Rattle.sound.specs.Tones.{Sounding, silence, frames_of, tone_after_all, tone_continued, Lasts, Ends, StaysSilent}

-- a frame more of a tone that is not over by then
pub one_more : (k : Cue) (d : ℕ) → d + 1 < frames_of k → tone_continued (record { kind = k; age = d }) ≡ record { kind = k; age = d + 1 }
one_more k d h = ap (λ b. cond b (record { kind = k; age = d + 1 }) silence) (lt-ltb (d + 1) (frames_of k) h)

-- and of one that is
none_more : (k : Cue) (d : ℕ) → frames_of k ≤ d + 1 → tone_continued (record { kind = k; age = d }) ≡ silence
none_more k d h = ap (λ b. cond b (record { kind = k; age = d + 1 }) silence) (le-ltb (d + 1) (frames_of k) h)

pub stays_silent : StaysSilent
stays_silent zero = refl
stays_silent (suc n) = stays_silent n

goes_on : (k : Cue) (d n : ℕ) → d + n < frames_of k → tone_after_all (record { kind = k; age = d }) (replicate n Nothing) ≡ record { kind = k; age = d + n }
goes_on k d zero h = let e : d ≡ d + 0 = omega arith in ap (λ (a : ℕ). record { kind = k; age = a }) e
goes_on k d (suc n) h =
    let e : d + 1 + n ≡ d + suc n = omega arith in
    ap (λ (t : Sounding). tone_after_all t (replicate n Nothing)) (one_more k d (omega arith))
    ∙ goes_on k (d + 1) n (omega arith)
    ∙ ap (λ (a : ℕ). record { kind = k; age = a }) e

is_over : (k : Cue) (d n : ℕ) → d < frames_of k → frames_of k ≤ d + n → tone_after_all (record { kind = k; age = d }) (replicate n Nothing) ≡ silence
is_over k d zero h l = let no : ⊥ = omega arith in absurd no
is_over k d (suc n) h l =
    elim (cases_lt (d + 1) (frames_of k)) [
      | inl m ↦
          ap (λ (t : Sounding). tone_after_all t (replicate n Nothing)) (one_more k d m)
          ∙ is_over k (d + 1) n m (omega arith)
      | inr m ↦ ap (λ (t : Sounding). tone_after_all t (replicate n Nothing)) (none_more k d m) ∙ stays_silent n
    ]

pub lasts : Lasts
lasts t Nothing n h = let no : ⊥ = omega arith in absurd no
lasts t Paddle n h = goes_on Paddle 0 n (omega arith) ∙ ap (λ (a : ℕ). record { kind = Paddle; age = a }) (omega arith)
lasts t Wall n h = goes_on Wall 0 n (omega arith) ∙ ap (λ (a : ℕ). record { kind = Wall; age = a }) (omega arith)
lasts t Point n h = goes_on Point 0 n (omega arith) ∙ ap (λ (a : ℕ). record { kind = Point; age = a }) (omega arith)

pub ends : Ends
ends t Nothing n h l = absurd (h refl)
ends t Paddle n h l = is_over Paddle 0 n (omega arith) (omega arith)
ends t Wall n h l = is_over Wall 0 n (omega arith) (omega arith)
ends t Point n h l = is_over Point 0 n (omega arith) (omega arith)
