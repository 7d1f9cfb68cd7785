-- Events as a session has them, and what they come to. Assumes nothing: these are definitions.
use Rattle.std.specs.Prelude.{ℕ, Bool, true, false, cond, List, ◌++◌, drop, Some, None, Option}
use Rattle.packet.specs.Wire.{Message, message_bytes, message_length}
use Rattle.peer.specs.Peers.{Log, Event, tick, arrival}
use Rattle.rollback.specs.Said.{said_tick, said_arrival}
use Rattle.rollback.specs.declared.outcome.Outcome.{Outcome}
use Rattle.rollback.specs.declared.outcome.Outcome.TheVariants.{Taken, Lost, Refused}
use Rattle.session.specs.declared.event.Happening.{Happening}
use Rattle.session.specs.declared.event.Happening.TheVariants.{Tick, Arrival}

-- what happens at a peer, as the definitions of peers have it
abbrev pub event_of : Happening → Event
event_of (Tick a) = tick a
event_of (Arrival bytes) = arrival bytes.now

-- what an event comes to, by the window, the lengths of the lent inputs and states, and the log
abbrev pub said : (ℕ → Bool) → ℕ → ℕ → ℕ → Log → Event → Outcome
said fits window inputs states log (tick a) = said_tick fits window inputs states log a
said fits window inputs states log (arrival xs) = said_arrival window inputs states log xs

-- a packet is written after a tick, also after a lost one, and not after one that was refused
abbrev pub writes : Event → Outcome → Bool
writes (tick a) (Taken n) = true
writes (tick a) Lost = true
writes (tick a) (Refused r) = false
writes (arrival xs) o = false

-- its length, if it is written, and what the lent memory for it holds then
abbrev pub sent : Bool → Message → Option ℕ
sent b m = cond b (Some (message_length m)) None

abbrev pub packet_over : Bool → Message → List ℕ → List ℕ
packet_over b m out = cond b (message_bytes m ++ drop (message_length m) out) out

-- the sound of a frame is handed out where a tick plays it
abbrev pub hands : Event → Outcome → Bool
hands (tick a) (Taken n) = true
hands (tick a) Lost = false
hands (tick a) (Refused r) = false
hands (arrival xs) o = false
