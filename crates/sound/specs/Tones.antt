-- Tones: which a cue begins, how long each lasts, and how they are saved. Assumes nothing: these
-- are definitions, and statements that are proved in proofs/.
use Rattle.std.specs.Prelude.{◌≡◌, ◌≢◌, ℕ, ◌+◌, ◌-◌, ◌<◌, ◌≤◌, if◌then◌else◌, List, [], ◌∷◌, nat_lt, ◌==◌, replicate, slice_index}
use Rattle.court.specs.declared.cue.Cue.{Cue}
use Rattle.court.specs.declared.cue.Cue.TheVariants.{Nothing, Paddle, Wall, Point}

-- ---- kinds

-- for how many frames a cue is heard
abbrev pub frames_of : Cue → ℕ
frames_of Nothing = 0
frames_of Paddle = 6
frames_of Wall = 6
frames_of Point = 30

-- how often its tone turns in a second
abbrev pub turns_of : Cue → ℕ
turns_of Nothing = 0
turns_of Paddle = 440
turns_of Wall = 220
turns_of Point = 110

-- the age of a tone of a kind in its last frame, and 0 for nothing
abbrev pub last_age : Cue → ℕ
last_age k = frames_of k - 1

-- ---- what sounds in a frame

-- the kind of the tone, and how many frames before this one it began
pub record Sounding : Type 0 where
  pub kind : Cue
  pub age : ℕ

abbrev pub silence : Sounding
silence = record { kind = Nothing; age = 0 }

-- a tone that is not over, or silence
abbrev pub IsInRange : Sounding → Type 0
IsInRange t = t.age ≤ last_age t.kind

-- a tone in its first frame
abbrev pub tone_begun : Cue → Sounding
tone_begun k = record { kind = k; age = 0 }

-- one frame later, where it is not over by then
abbrev pub tone_continued : Sounding → Sounding
tone_continued t =
    if nat_lt (t.age + 1) (frames_of t.kind)
    then record { kind = t.kind; age = t.age + 1 }
    else silence

-- what sounds after a frame that gives a cue: a cue begins a tone, whatever sounded before
abbrev pub tone_after : Sounding → Cue → Sounding
tone_after t Nothing = tone_continued t
tone_after t k = tone_begun k

-- and after many frames, the first cue first
abbrev pub tone_after_all : Sounding → List Cue → Sounding
tone_after_all t [] = t
tone_after_all t (c ∷ cs) = tone_after_all (tone_after t c) cs

-- what sounds in each of these frames
abbrev pub tones_of : Sounding → List Cue → List Sounding
tones_of t [] = []
tones_of t (c ∷ cs) = tone_after t c ∷ tones_of (tone_after t c) cs

-- ---- saved

abbrev pub code_of : Cue → ℕ
code_of Nothing = 0
code_of Paddle = 1
code_of Wall = 2
code_of Point = 3

-- a number above 3 is read as nothing
abbrev pub kind_of : ℕ → Cue
kind_of n =
    if n == 1 then Paddle else (if n == 2 then Wall else (if n == 3 then Point else Nothing))

-- a tone in two bytes
abbrev pub tone_bytes : Sounding → List ℕ
tone_bytes t = code_of t.kind ∷ t.age ∷ []

-- the tone that two bytes say: silence where there is no such kind, or it would be over
abbrev pub tone_said : List ℕ → Sounding
tone_said bytes =
    if nat_lt (slice_index bytes 1) (frames_of (kind_of (slice_index bytes 0)))
    then record { kind = kind_of (slice_index bytes 0); age = slice_index bytes 1 }
    else silence

-- ---- what is promised of them

-- the newest counts: what a cue begins does not depend on what sounded before
abbrev pub NewestCounts : Type 0
NewestCounts = (t u : Sounding) (k : Cue) → k ≢ Nothing → tone_after t k ≡ tone_after u k

-- n frames with no cue after one with a cue, its tone is n frames old
abbrev pub Lasts : Type 0
Lasts = (t : Sounding) (k : Cue) (n : ℕ) → n < frames_of k →
    tone_after_all t (k ∷ replicate n Nothing) ≡ record { kind = k; age = n }

-- and once that is as many as it lasts, there is silence, whatever sounded before
abbrev pub Ends : Type 0
Ends = (t : Sounding) (k : Cue) (n : ℕ) → k ≢ Nothing → frames_of k ≤ n →
    tone_after_all t (k ∷ replicate n Nothing) ≡ silence

-- with no cue silence stays
abbrev pub StaysSilent : Type 0
StaysSilent = (n : ℕ) → tone_after_all silence (replicate n Nothing) ≡ silence

-- a tone in range stays so, and what two bytes say is in range
abbrev pub StaysInRange : Type 0
StaysInRange = (t : Sounding) (k : Cue) → IsInRange t → IsInRange (tone_after t k)

abbrev pub ReadInRange : Type 0
ReadInRange = (bytes : List ℕ) → IsInRange (tone_said bytes)

-- the bytes of a tone say that tone
abbrev pub ComesBack : Type 0
ComesBack = (t : Sounding) → IsInRange t → tone_said (tone_bytes t) ≡ t
