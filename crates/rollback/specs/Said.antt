-- What events come to. Assumes nothing: these are definitions.
use Rattle.std.specs.Prelude.{ℕ, Bool, cond, List, length, Ok, Err, Result}
use Rattle.packet.specs.Wire.{Message, reading}
use Rattle.packet.specs.declared.fault.Fault.{Fault}
use Rattle.peer.specs.declared.refusal.Refusal.{Refusal}
use Rattle.peer.specs.declared.refusal.Refusal.TheVariants.{Input, Packet}
use Rattle.peer.specs.declared.numbers.Peer.{Peer}
use Rattle.peer.specs.Peers.{Log, goes_on, heard, to_play}
use Rattle.peer.specs.Refusals.{memory_checked}
use Rattle.rollback.specs.declared.outcome.Outcome.{Outcome}
use Rattle.rollback.specs.declared.outcome.Outcome.TheVariants.{Taken, Lost, Refused}

abbrev pub if_checked : Result (Unit {0}) Refusal → Outcome → Outcome
if_checked (Ok _) o = o
if_checked (Err f) o = Refused f

-- lent memory is looked at first; what is said of a tick, by the lengths of the lent inputs and states: it plays one frame
unfoldable pub said_tick : (ℕ → Bool) → ℕ → ℕ → ℕ → Log → ℕ → Outcome
said_tick fits window inputs states log a =
    if_checked (memory_checked window inputs states) (cond (fits a) (cond (goes_on window log) (Taken 1) Lost) (Refused Input))

-- of a packet that was read: it plays the frames that what it changed asks for
abbrev pub said_read : Log → Result Message Fault → Outcome
said_read log (Ok m) = Taken (to_play log (heard log (Ok m)))
said_read log (Err f) = Refused (Packet f)

-- of bytes that came
unfoldable pub said_arrival : ℕ → ℕ → ℕ → Log → List ℕ → Outcome
said_arrival window inputs states log xs = if_checked (memory_checked window inputs states) (said_read log (reading (length log.own) xs))

-- and of a new peer: that it begins, or why not
abbrev pub as_checked : Result Peer Refusal → Result (Unit {0}) Refusal
as_checked (Ok p) = Ok tt
as_checked (Err f) = Err f
