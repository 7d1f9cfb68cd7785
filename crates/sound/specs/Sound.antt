-- Samples: 48,000 a second, 800 in each frame, in 16 bits with a sign. Assumes nothing: these are
-- definitions, and statements that are proved in proofs/.
use Rattle.std.specs.Prelude.{◌≡◌, ◌≢◌, ℕ, zero, suc, ◌+◌, ◌-◌, ◌*◌, ◌/◌, ◌%◌, ◌<◌, if◌then◌else◌, List, [], ◌∷◌, ◌++◌, ◌==◌, fold, replicate, ℤ, pos, neg_ℤ, ◌+ℤ◌, length, slice_index_or}
use Rattle.std.specs.Int.{w16, cast_unsigned, to_le_bytes}
use Rattle.court.specs.declared.cue.Cue.{Cue}
use Rattle.court.specs.declared.cue.Cue.TheVariants.{Nothing}
use Rattle.sound.specs.Tones.{Sounding, silence, frames_of, turns_of, tone_after, tones_of}

-- samples a second, and in a frame, of which a second has 60
abbrev pub sample_rate : ℕ
sample_rate = 48000

abbrev pub frame_length : ℕ
frame_length = 800

-- the highest sample
abbrev pub loudest : ℤ
loudest = pos 8192

-- high in an even half turn of a tone, and as far below 0 in an odd one
abbrev pub level_of : ℕ → ℤ
level_of half_turn = if half_turn % 2 == 0 then loudest else neg_ℤ loudest

-- sample i of a tone from its beginning on
unfoldable pub tone_sample : Cue → ℕ → ℤ
tone_sample Nothing i = pos 0
tone_sample k i = level_of (2 * turns_of k * i / sample_rate)

-- n samples of a tone, from sample i on
unfoldable pub samples_from : Cue → ℕ → ℕ → List ℤ
samples_from k i zero = []
samples_from k i (suc n) = tone_sample k i ∷ samples_from k (suc i) n

-- sample j of a frame
abbrev pub sample_of : Sounding → ℕ → ℤ
sample_of t j = tone_sample t.kind (frame_length * t.age + j)

-- a frame's samples
unfoldable pub frame_samples : Sounding → List ℤ
frame_samples t = samples_from t.kind (frame_length * t.age) frame_length

-- the samples of many frames
abbrev pub samples_of : List Sounding → List ℤ
samples_of [] = []
samples_of (t ∷ ts) = frame_samples t ++ samples_of ts

-- what is heard of these frames, of which the first follows on a frame with this tone
abbrev pub sound_after : Sounding → List Cue → List ℤ
sound_after t cues = samples_of (tones_of t cues)

-- what is heard of a whole game
abbrev pub sound_of : List Cue → List ℤ
sound_of cues = sound_after silence cues

-- ---- as bytes

-- in two's complement, the low byte first
abbrev pub sample_bytes : ℤ → List ℕ
sample_bytes v = to_le_bytes w16 (cast_unsigned w16 v)

unfoldable pub bytes_of : List ℤ → List ℕ
bytes_of [] = []
bytes_of (v ∷ vs) = sample_bytes v ++ bytes_of vs

abbrev pub sound_bytes : Sounding → List ℕ
sound_bytes t = bytes_of (frame_samples t)

-- ---- what is promised of them

-- the samples of a tone that is heard to its end add up to 0
abbrev pub SumsToZero : Type 0
SumsToZero = (t : Sounding) (k : Cue) → k ≢ Nothing →
    fold ◌+ℤ◌ (pos 0) (sound_after t (k ∷ replicate (frames_of k - 1) Nothing)) ≡ pos 0

-- every sample of a frame has its place
abbrev pub SamplesInPlace : Type 0
SamplesInPlace = (t : Sounding) (j : ℕ) → j < frame_length →
    slice_index_or (frame_samples t) j (pos 0) ≡ sample_of t j

-- and there are no others; each has two bytes
abbrev pub Whole : Type 0
Whole = (t : Sounding) →
    (length (frame_samples t) ≡ frame_length) × (length (sound_bytes t) ≡ 2 * frame_length)

-- the sound of many frames is that of the first, and then of the others, from the first one's tone
-- on
abbrev pub FrameByFrame : Type 0
FrameByFrame = (t : Sounding) (c : Cue) (cs : List Cue) →
    bytes_of (sound_after t (c ∷ cs)) ≡
    sound_bytes (tone_after t c) ++ bytes_of (sound_after (tone_after t c) cs)
