-- What is promised of recordings. Assumes nothing: these are definitions, and statements that are proved in proofs/.
use Rattle.std.specs.Prelude.{◌≡◌, ℕ, ◌+◌, ◌-◌, ◌<◌, ◌≤◌, true, ◌⊎◌, List, length, is_err, Ok, Err, MatchResult, ◌≢◌, slice_index}
use Rattle.recording.specs.declared.fault.Fault.{Fault}
use Rattle.recording.specs.declared.fault.Fault.TheVariants.{NoMark, CutShort, Window, TooMany, WrongState, TooLong}
use Rattle.recording.specs.Matches.{Match, match_bytes, match_length}
use Rattle.recording.specs.Reading.{Proper, mark_bytes, window_in, count_in, due_in, reading, fault_place}

-- what is written is read
abbrev pub WrittenRead : Type 0
WrittenRead = (m : Match) → Proper m → reading (match_bytes m) ≡ Ok m

-- and only that: what is read as a recording is that recording's bytes
abbrev pub ReadWritten : Type 0
ReadWritten =
    (xs : List ℕ) (m : Match) → ((i : ℕ) → slice_index xs i < 256) → reading xs ≡ Ok m → (match_bytes m ≡ xs) × Proper m

-- so bytes are one recording at most
abbrev pub OneAtMost : Type 0
OneAtMost = (m n : Match) → Proper m → Proper n → match_bytes m ≡ match_bytes n → m ≡ n

-- and those that are refused are just those that no recording is written as
abbrev pub RefusedExactly : Type 0
RefusedExactly =
    (xs : List ℕ) → ((i : ℕ) → slice_index xs i < 256) →
    ((f : Fault) → reading xs ≡ Err f → (m : Match) → Proper m → match_bytes m ≢ xs)
    × (((m : Match) → Proper m → match_bytes m ≢ xs) → is_err (reading xs) ≡ true)

-- what is wrong with bytes, each fault by itself: a field is judged once all bytes that it needs are there
abbrev pub Faulty : List ℕ → Fault → Type 0
Faulty xs (NoMark at) = (at < 3) × (at < length xs) × (slice_index xs at ≢ slice_index mark_bytes at)
Faulty xs (CutShort at) =
    (at ≡ length xs) × ((length xs < 8) ⊎ ((length xs < match_length (count_in xs)) × (8 ≤ length xs)))
Faulty xs Window = (4 ≤ length xs) × ((window_in xs < 1) ⊎ (60 < window_in xs))
Faulty xs TooMany = (8 ≤ length xs) × (1000000 < count_in xs)
Faulty xs (WrongState at) =
    (8 + count_in xs ≤ at) × (at < length xs) × (at < match_length (count_in xs))
    × (slice_index xs at ≢ slice_index (due_in xs) (at - (8 + count_in xs)))
Faulty xs (TooLong at) = (8 ≤ length xs) × (at ≡ match_length (count_in xs)) × (at < length xs)

-- the fault that is told is one of them, and none is at a lower place; what is taken has none
abbrev pub LowestTold : Type 0
LowestTold =
    (xs : List ℕ) →
    MatchResult (reading xs) (λ m. (f : Fault) → Faulty xs f → ⊥)
    (λ f. Faulty xs f × ((g : Fault) → Faulty xs g → fault_place f ≤ fault_place g))
