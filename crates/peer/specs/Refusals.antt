-- What a peer refuses, by number and place. Assumes nothing: these are definitions.
use Rattle.std.specs.Prelude.{ℕ, ◌+◌, ◌*◌, cond, ◌||◌, Ok, Err, Result, nat_lt}
use Rattle.std.specs.Result.{result_and}
use Rattle.packet.specs.Wire.{fault_number, fault_place}
use Rattle.peer.specs.declared.refusal.Refusal.{Refusal}
use Rattle.peer.specs.declared.refusal.Refusal.TheVariants.{Input, Packet, Window, Inputs, States}

abbrev pub refusal_number : Refusal → ℕ
refusal_number Input = 2
refusal_number (Packet f) = fault_number f
refusal_number Window = 5
refusal_number Inputs = 5
refusal_number States = 5

-- in a tick the input is byte 1, behind the event's kind; lent memory is counted from the window as 0
abbrev pub refusal_place : Refusal → ℕ
refusal_place Input = 1
refusal_place (Packet f) = fault_place f
refusal_place Window = 0
refusal_place Inputs = 1
refusal_place States = 2

-- a window is 1 to 60
abbrev pub window_checked : ℕ → Result (Unit {0}) Refusal
window_checked window = cond (nat_lt window 1 || nat_lt 60 window) (Err Window) (Ok tt)

-- lent memory, by its lengths: the inputs, then the states, 64 bytes each and one more than the window
abbrev pub memory_checked : ℕ → ℕ → ℕ → Result (Unit {0}) Refusal
memory_checked window inputs states =
    cond (nat_lt inputs 2000000) (Err Inputs) (cond (nat_lt states ((window + 1) * 64)) (Err States) (Ok tt))

-- a new peer: first the window, then the memory
unfoldable pub begin_checked : ℕ → ℕ → ℕ → Result (Unit {0}) Refusal
begin_checked window inputs states = result_and (window_checked window) (memory_checked window inputs states)
