-- A packet's bytes, and how bytes are read as a packet or refused. Assumes nothing: these are definitions,
-- and statements that are proved in proofs/.
use Rattle.std.specs.Prelude.{◌≡◌, ℕ, ◌+◌, ◌^◌, ◌<◌, ◌≤◌, true, cond, not, ◌⊎◌, List, ◌∷◌, ◌++◌, length, drop, is_err, Ok, Err, Result, MatchResult, ◌==◌, ◌≢◌, nat_lt, slice_index}
use Rattle.std.specs.Result.{result_and}
use Rattle.byte_numbers.specs.Little.{little, number_of, part}
use Rattle.packet.specs.declared.fault.Fault.{Fault}
use Rattle.packet.specs.declared.fault.Fault.TheVariants.{NoMark, CutShort, TooLong, TooMany, BadInput, PastEnd, Unmade}
use Rattle.packet.specs.declared.fault.Unwritten.{Unwritten}
use Rattle.packet.specs.declared.fault.Unwritten.TheVariants.{Overfull, NoRoom}
use Rattle.packet.specs.declared.message.Packet.{Packet}
use Rattle.packet.specs.Inputs.{inputs_fit, first_bad}

-- ---- what a packet says

-- the sender's inputs from one frame on, and how many of the other's inputs it has
pub record Message : Type 0 where
  pub first : ℕ
  pub inputs : List ℕ
  pub ack : ℕ

abbrev pub message_of : Packet → Message
message_of p = record { first = p.first; inputs = p.inputs.now; ack = p.ack }

-- "H"; the first frame; how many inputs; how many of the other's inputs the sender has; the inputs
abbrev pub message_bytes : Message → List ℕ
message_bytes m = 72 ∷ (little 4 m.first ++ (length m.inputs ∷ (little 4 m.ack ++ m.inputs)))

-- a message that a peer which has made so many inputs takes
pub record Proper (own : ℕ) (m : Message) : Type 0 where
  pub few : length m.inputs ≤ 120
  pub whole : m.first + length m.inputs ≤ 1000000
  pub fit : inputs_fit m.inputs ≡ true
  pub known : m.ack ≤ own

-- ---- faults

-- 1 the packet's form, 2 an input, 3 what it says does not go with the game
abbrev pub fault_number : Fault → ℕ
fault_number NoMark = 1
fault_number (CutShort at) = 1
fault_number (TooLong at) = 1
fault_number TooMany = 1
fault_number (BadInput at) = 2
fault_number PastEnd = 3
fault_number Unmade = 3

abbrev pub fault_place : Fault → ℕ
fault_place NoMark = 0
fault_place (CutShort at) = at
fault_place (TooLong at) = at
fault_place TooMany = 5
fault_place (BadInput at) = at
fault_place PastEnd = 1
fault_place Unmade = 6

-- ---- reading

abbrev pub first_in : List ℕ → ℕ
first_in xs = number_of (part xs 1 4)

abbrev pub count_in : List ℕ → ℕ
count_in xs = slice_index xs 5

abbrev pub ack_in : List ℕ → ℕ
ack_in xs = number_of (part xs 6 4)

-- the inputs as far as they are there
abbrev pub inputs_in : List ℕ → List ℕ
inputs_in xs = part xs 10 (count_in xs)

-- the first six bytes: the mark, the first frame and the number of inputs
unfoldable pub start_checked : List ℕ → Result (Unit {0}) Fault
start_checked xs =
    cond (length xs == 0) (Err (CutShort 0))
    (cond (not (slice_index xs 0 == 72)) (Err NoMark)
    (cond (nat_lt (length xs) 6) (Err (CutShort (length xs)))
    (cond (nat_lt 1000000 (first_in xs + count_in xs)) (Err PastEnd)
    (cond (nat_lt 120 (count_in xs)) (Err TooMany)
    (Ok tt)))))

-- the others
unfoldable pub rest_checked : ℕ → List ℕ → Result (Unit {0}) Fault
rest_checked own xs =
    cond (nat_lt (length xs) 10) (Err (CutShort (length xs)))
    (cond (nat_lt own (ack_in xs)) (Err Unmade)
    (cond (nat_lt (first_bad (inputs_in xs)) (length (inputs_in xs))) (Err (BadInput (10 + first_bad (inputs_in xs))))
    (cond (nat_lt (length xs) (10 + count_in xs)) (Err (CutShort (length xs)))
    (cond (nat_lt (10 + count_in xs) (length xs)) (Err (TooLong (10 + count_in xs)))
    (Ok tt)))))

unfoldable pub reading : ℕ → List ℕ → Result Message Fault
reading own xs =
    result_and (start_checked xs) (result_and (rest_checked own xs) (Ok (record { first = first_in xs; inputs = inputs_in xs; ack = ack_in xs })))

-- what the reader answered, as a message
abbrev pub read_as : Result Packet Fault → Result Message Fault
read_as (Ok p) = Ok (message_of p)
read_as (Err f) = Err f

-- ---- writing

-- how long a message's bytes are
abbrev pub message_length : Message → ℕ
message_length m = 10 + length m.inputs

-- what the writer answers, by the length of the lent slice
abbrev pub writing : Message → ℕ → Result ℕ Unwritten
writing m room =
    cond (nat_lt 120 (length m.inputs)) (Err Overfull) (cond (nat_lt room (message_length m)) (Err NoRoom) (Ok (message_length m)))

-- what the slice holds then
abbrev pub written_over : Message → List ℕ → List ℕ
written_over m out =
    cond (nat_lt 120 (length m.inputs)) out
    (cond (nat_lt (length out) (message_length m)) out (message_bytes m ++ drop (message_length m) out))

-- ---- what is promised

-- what is written is read
abbrev pub WrittenRead : Type 0
WrittenRead = (own : ℕ) (m : Message) → own < 2 ^ 32 → Proper own m → reading own (message_bytes m) ≡ Ok m

-- and only that: what is read as a packet is that packet's bytes
abbrev pub ReadWritten : Type 0
ReadWritten =
    (own : ℕ) (xs : List ℕ) (m : Message) → ((i : ℕ) → slice_index xs i < 256) → reading own xs ≡ Ok m →
    (message_bytes m ≡ xs) × Proper own m

-- so bytes are one packet at most
abbrev pub OneAtMost : Type 0
OneAtMost =
    (own : ℕ) (m n : Message) → own < 2 ^ 32 → Proper own m → Proper own n → message_bytes m ≡ message_bytes n → m ≡ n

-- and those that are refused are just those that no packet is written as
abbrev pub RefusedExactly : Type 0
RefusedExactly =
    (own : ℕ) (xs : List ℕ) → own < 2 ^ 32 → ((i : ℕ) → slice_index xs i < 256) →
    ((f : Fault) → reading own xs ≡ Err f → (m : Message) → Proper own m → message_bytes m ≢ xs)
    × (((m : Message) → Proper own m → message_bytes m ≢ xs) → is_err (reading own xs) ≡ true)

-- what is wrong with bytes, each fault by itself: a field is judged once all bytes that it needs are there
abbrev pub Faulty : ℕ → List ℕ → Fault → Type 0
Faulty own xs NoMark = (0 < length xs) × (slice_index xs 0 ≢ 72)
Faulty own xs (CutShort at) = (at ≡ length xs) × ((length xs < 10) ⊎ (length xs < 10 + count_in xs))
Faulty own xs (TooLong at) = (10 ≤ length xs) × (at ≡ 10 + count_in xs) × (at < length xs)
Faulty own xs TooMany = (6 ≤ length xs) × (120 < count_in xs)
Faulty own xs (BadInput at) = (10 ≤ at) × (at < length xs) × (at < 10 + count_in xs) × (15 < slice_index xs at)
Faulty own xs PastEnd = (6 ≤ length xs) × (1000000 < first_in xs + count_in xs)
Faulty own xs Unmade = (10 ≤ length xs) × (own < ack_in xs)

-- the fault that is told is one of them, and none is at a lower place; what is taken has none
abbrev pub LowestTold : Type 0
LowestTold =
    (own : ℕ) (xs : List ℕ) →
    MatchResult (reading own xs) (λ m. (f : Fault) → Faulty own xs f → ⊥)
    (λ f. Faulty own xs f × ((g : Fault) → Faulty own xs g → fault_place f ≤ fault_place g))
