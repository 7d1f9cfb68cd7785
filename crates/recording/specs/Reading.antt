-- How bytes are read as a recording or refused. Assumes nothing: these are definitions.
use Rattle.std.specs.Prelude.{◌≡◌, ℕ, ◌+◌, ◌/◌, ◌<◌, ◌≤◌, cond, not, ◌||◌, List, [], ◌∷◌, ◌++◌, length, drop, position, codes, Option, Some, None, Ok, Err, Result, MatchResult, ◌==◌, nat_lt, slice_index}
use Rattle.std.specs.List.{zip}
use Rattle.std.specs.Fmt.{decimal}
use Rattle.std.specs.Result.{result_and}
use Rattle.byte_numbers.specs.Little.{number_of, part}
use Rattle.recording.specs.declared.fault.Fault.{Fault}
use Rattle.recording.specs.declared.fault.Fault.TheVariants.{NoMark, CutShort, Window, TooMany, WrongState, TooLong}
use Rattle.recording.specs.declared.held.Recording.{Recording}
use Rattle.recording.specs.Matches.{Match, marks}

-- the first byte in fault; the number is 6 for all
abbrev pub fault_place : Fault → ℕ
fault_place (NoMark at) = at
fault_place (CutShort at) = at
fault_place Window = 3
fault_place TooMany = 4
fault_place (WrongState at) = at
fault_place (TooLong at) = at

-- as people are told: "refused 6 at 9"
abbrev pub fault_text : Fault → List ℕ
fault_text f = codes "refused " ++ decimal 6 ++ codes " at " ++ decimal (fault_place f)

-- ---- fields

-- "REC"
abbrev pub mark_bytes : List ℕ
mark_bytes = 82 ∷ (69 ∷ (67 ∷ []))

abbrev pub window_in : List ℕ → ℕ
window_in xs = slice_index xs 3

abbrev pub count_in : List ℕ → ℕ
count_in xs = number_of (part xs 4 4)

abbrev pub frames_in : List ℕ → List ℕ
frames_in xs = part xs 8 (count_in xs)

-- what lies behind the frames, and the states that have to lie there
abbrev pub states_in : List ℕ → List ℕ
states_in xs = drop (8 + count_in xs) xs

abbrev pub due_in : List ℕ → List ℕ
due_in xs = marks (frames_in xs) (count_in xs / 600)

-- ---- checks, in the order of their places

-- where two rows first differ, as far as both go
abbrev pub differing : List ℕ → List ℕ → Option ℕ
differing xs ys = position (λ (p : ℕ × ℕ). not (p.0 == p.1)) (zip xs ys)

-- a fault where rows differ, and else what comes behind it
abbrev pub told_or : Option ℕ → (ℕ → Fault) → Result (Unit {0}) Fault → Result (Unit {0}) Fault
told_or (Some at) fault next = Err (fault at)
told_or None fault next = next

-- the header and the frames
unfoldable pub head_checked : List ℕ → Result (Unit {0}) Fault
head_checked xs =
    told_or (differing xs mark_bytes) NoMark
    (cond (nat_lt (length xs) 4) (Err (CutShort (length xs)))
    (cond (nat_lt (window_in xs) 1 || nat_lt 60 (window_in xs)) (Err Window)
    (cond (nat_lt (length xs) 8) (Err (CutShort (length xs)))
    (cond (nat_lt 1000000 (count_in xs)) (Err TooMany)
    (cond (nat_lt (length xs) (8 + count_in xs)) (Err (CutShort (length xs)))
    (Ok tt))))))

-- the saved states: where they are not those that the frames give, how many bytes there are, and how many there have to be
abbrev pub states_told : ℕ → Option ℕ → ℕ → ℕ → Result (Unit {0}) Fault
states_told at wrong there due =
    told_or wrong (λ k. WrongState (at + k))
    (cond (nat_lt there due) (Err (CutShort (at + there))) (cond (nat_lt due there) (Err (TooLong (at + due))) (Ok tt)))

unfoldable pub states_checked : List ℕ → Result (Unit {0}) Fault
states_checked xs = states_told (8 + count_in xs) (differing (states_in xs) (due_in xs)) (length (states_in xs)) (length (due_in xs))

-- one check behind the other: the first refusal counts
unfoldable pub reading : List ℕ → Result Match Fault
reading xs = result_and (head_checked xs) (result_and (states_checked xs) (Ok (record { window = window_in xs; frames = frames_in xs })))

-- ---- what the reader hands back

abbrev pub match_in : Recording → Match
match_in r = record { window = r.window; frames = r.frames.now }

abbrev pub read_as : Result Recording Fault → Result Match Fault
read_as (Ok r) = Ok (match_in r)
read_as (Err f) = Err f

-- the parts of bytes whose header and frames are right, or what is wrong with those
abbrev pub PartsOf : List ℕ → Result Recording Fault → Type 0
PartsOf xs r =
    MatchResult r
    (λ m. (head_checked xs ≡ Ok tt) × (m.window ≡ window_in xs) × (m.frames.now ≡ frames_in xs) × (m.states.now ≡ states_in xs))
    (λ f. head_checked xs ≡ Err f)

-- its saved states are those that its frames give
abbrev pub Right : Recording → Type 0
Right r = r.states.now ≡ marks r.frames.now (length r.frames.now / 600)

-- a match that has a recording
pub record Proper (m : Match) : Type 0 where
  pub near : (1 ≤ m.window) × (m.window ≤ 60)
  pub few : length m.frames ≤ 1000000
  pub bytes : (i : ℕ) → slice_index m.frames i < 256
