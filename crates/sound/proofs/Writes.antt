-- Samples written one behind the other. Assumes nothing.
use Rattle.std.proofs.Common.{◌≡◌, ℕ, zero, suc, ◌+◌, ◌*◌, ◌<◌, List, [], ◌∷◌, ◌++◌, length, get_or, drop, ℤ, pos, sym, refl, ap, ◌∙◌, append_assoc, add-zero, arith}
use borrow.Rule.Slice.PartMut.{put_mid}
use Rattle.std.proofs.lemmas.List.{append-nil, length-append, take_at, drop_at, drop-drop}
use Rattle.court.specs.declared.cue.Cue.{Cue}
use Rattle.sound.specs.Sound.{bytes_of, sample_bytes, samples_from, tone_sample, frame_samples, samples_of, sound_after, sound_of, SamplesInPlace, Whole, FrameByFrame}
use Rattle.sound.specs.Tones.{Sounding, silence, tone_after, tones_of}
use Rattle.sound.specs.Wav.{wav_header_of, LengthsAreTold}

pub length_samples : (k : Cue) (i n : ℕ) → length (samples_from k i n) ≡ n
unfolding samples_from
length_samples k i zero = refl
length_samples k i (suc n) = ap suc (length_samples k (suc i) n)

pub samples_none : (k : Cue) (i : ℕ) → samples_from k i 0 ≡ []
unfolding samples_from
samples_none k i = refl

-- more samples behind the first
pub samples_more : (k : Cue) (i m n : ℕ) → samples_from k i (m + n) ≡ samples_from k i m ++ samples_from k (i + m) n
unfolding samples_from
samples_more k i zero n = let e : i ≡ i + 0 = omega arith in let z : 0 + n ≡ n = omega arith in ap (samples_from k i) z ∙ ap (λ q. samples_from k q n) e
samples_more k i (suc m) n =
    let z : suc m + n ≡ suc (m + n) = omega arith in
    let e : suc i + m ≡ i + suc m = omega arith in
    ap (samples_from k i) z
    ∙ ap (λ l. tone_sample k i ∷ l) (samples_more k (suc i) m n ∙ ap (λ q. samples_from k (suc i) m ++ samples_from k q n) e)

samples_one : (k : Cue) (i : ℕ) → samples_from k i 1 ≡ tone_sample k i ∷ []
unfolding samples_from
samples_one k i = refl

length_bytes : (vs : List ℤ) → length (bytes_of vs) ≡ 2 * length vs
unfolding bytes_of
length_bytes [] = refl
length_bytes (v ∷ vs) = let h = length_bytes vs in omega arith

bytes_more : (vs ws : List ℤ) → bytes_of (vs ++ ws) ≡ bytes_of vs ++ bytes_of ws
unfolding bytes_of
bytes_more [] ws = refl
bytes_more (v ∷ vs) ws = ap (λ l. sample_bytes v ++ l) (bytes_more vs ws) ∙ sym (append_assoc (sample_bytes v) (bytes_of vs) (bytes_of ws))

bytes_one : (v : ℤ) → bytes_of (v ∷ []) ≡ sample_bytes v
unfolding bytes_of
bytes_one v = append-nil (sample_bytes v)

pub bytes_none : (k : Cue) (i : ℕ) → bytes_of (samples_from k i 0) ≡ []
unfolding bytes_of
bytes_none k i = ap bytes_of (samples_none k i)

-- the bytes of one sample more
bytes_next : (k : Cue) (i j : ℕ) → bytes_of (samples_from k i (j + 1)) ≡ bytes_of (samples_from k i j) ++ sample_bytes (tone_sample k (i + j))
bytes_next k i j =
    ap bytes_of (samples_more k i j 1 ∙ ap (λ l. samples_from k i j ++ l) (samples_one k (i + j)))
    ∙ bytes_more (samples_from k i j) (tone_sample k (i + j) ∷ [])
    ∙ ap (λ l. bytes_of (samples_from k i j) ++ l) (bytes_one (tone_sample k (i + j)))

-- a sample written into its place
pub joins : (k : Cue) (e ys : List ℕ) (i j : ℕ) → ys ≡ sample_bytes (tone_sample k (i + j)) → put_mid (2 * j) 2 (bytes_of (samples_from k i j) ++ drop (2 * j) e) ys ≡ bytes_of (samples_from k i (j + 1)) ++ drop (2 * (j + 1)) e
joins k e ys i j h =
    let front : List ℕ = bytes_of (samples_from k i j) in
    let n : length front ≡ 2 * j = length_bytes (samples_from k i j) ∙ ap (λ q. 2 * q) (length_samples k i j) in
    let t = take_at front (drop (2 * j) e) (2 * j) n in
    let d = drop_at front (drop (2 * j) e) (2 * j) n in
    let a : 2 * j + 2 ≡ 2 * (j + 1) = omega arith in
    let q : drop 2 (drop (2 * j) (front ++ drop (2 * j) e)) ≡ drop (2 * (j + 1)) e = ap (drop 2) d ∙ drop-drop 2 (2 * j) e ∙ ap (λ m. drop m e) a in
    ap (λ l. l ++ (ys ++ drop 2 (drop (2 * j) (front ++ drop (2 * j) e)))) t
    ∙ ap (λ l. front ++ l) (ap (λ l. ys ++ l) q ∙ ap (λ l. l ++ drop (2 * (j + 1)) e) h)
    ∙ sym (append_assoc front (sample_bytes (tone_sample k (i + j))) (drop (2 * (j + 1)) e))
    ∙ ap (λ l. l ++ drop (2 * (j + 1)) e) (sym (bytes_next k i j))

sample_at : (k : Cue) (i n j : ℕ) → j < n → get_or (samples_from k i n) j (pos 0) ≡ tone_sample k (i + j)
unfolding samples_from
sample_at k i zero j h = let no : ⊥ = omega arith in absurd no
sample_at k i (suc n) zero h = ap (tone_sample k) (sym (add-zero i))
sample_at k i (suc n) (suc j) h = let l : j < n = omega arith in let e : suc i + j ≡ i + suc j = omega arith in sample_at k (suc i) n j l ∙ ap (tone_sample k) e

pub in_place : SamplesInPlace
unfolding frame_samples
in_place t j h = sample_at t.kind (800 * t.age) 800 j h

pub whole : Whole
unfolding frame_samples
whole t =
    (length_samples t.kind (800 * t.age) 800, length_bytes (samples_from t.kind (800 * t.age) 800) ∙ ap (λ q. 2 * q) (length_samples t.kind (800 * t.age) 800))

pub frame_by_frame : FrameByFrame
frame_by_frame t c cs = bytes_more (frame_samples (tone_after t c)) (samples_of (tones_of (tone_after t c) cs))

-- ---- lengths

length_sound : (t : Sounding) (cs : List Cue) → length (sound_after t cs) ≡ 800 * length cs
length_sound t [] = refl
length_sound t (c ∷ cs) =
    let a = length-append (frame_samples (tone_after t c)) (samples_of (tones_of (tone_after t c) cs)) in
    let b = (whole (tone_after t c)).0 in
    let d = length_sound (tone_after t c) cs in
    omega arith

pub lengths_are_told : LengthsAreTold
lengths_are_told cues =
    let d : length (bytes_of (sound_of cues)) ≡ 1600 * length cues = length_bytes (sound_of cues) ∙ ap (λ q. 2 * q) (length_sound silence cues) ∙ omega arith in
    record {
      header = refl;
      data_told = d;
      riff_told = length-append (wav_header_of (length cues)) (bytes_of (sound_of cues)) ∙ ap (λ q. 44 + q) d ∙ omega arith;
    }
