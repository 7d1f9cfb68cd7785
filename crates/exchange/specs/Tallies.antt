-- Events at one machine, counted, and the counts of a row of moves. Assumes nothing: these are definitions.
use Rattle.std.specs.Prelude.{ℕ, ◌+◌, ◌-◌, ◌*◌, ◌^◌, min, cond, List, [], ◌∷◌, map, length, get_or, nat_lt}
use Rattle.court_game.specs.Games.{is_input}
use Rattle.game.specs.declared.seat.Seat.{Seat}
use Rattle.game.specs.declared.seat.Seat.TheVariants.{Left, Right}
use Rattle.network.specs.Network.{Network, peer_at, packets_to, new_network}
use Rattle.packet.specs.Wire.{message_bytes}
use Rattle.peer.specs.Peers.{Event, tick, arrival}
use Rattle.rollback.specs.declared.outcome.Outcome.{Outcome}
use Rattle.rollback.specs.declared.outcome.Outcome.TheVariants.{Taken, Lost, Refused}
use Rattle.session.specs.Events.{said}
use Rattle.exchange.specs.declared.moves.Act.{Act}
use Rattle.exchange.specs.declared.moves.Act.TheVariants.{Tick, Deliver}
use Rattle.exchange.specs.declared.moves.Move.{Move}
use Rattle.exchange.specs.declared.tally.Tally.{Tally}
use Rattle.exchange.specs.Moves.{acted}

-- a sum that stops at the largest number
abbrev pub up_to : ℕ → ℕ → ℕ
up_to a b = min (a + b) (2 ^ 64 - 1)

-- frames that were played before: those that a packet plays
abbrev pub again_by : Act → ℕ → ℕ → ℕ
again_by (Tick a) again n = again
again_by (Deliver k) again n = up_to again n

-- with one event more
abbrev pub counted_by : Act → Outcome → Tally → Tally
counted_by act (Taken n) t =
    record { lost = t.lost; refused = t.refused; played = up_to t.played n; again = again_by act t.again n }
counted_by act Lost t = record { lost = up_to t.lost 1; refused = t.refused; played = t.played; again = t.again }
counted_by act (Refused r) t = record { lost = t.lost; refused = up_to t.refused 1; played = t.played; again = t.again }

-- ---- a row of moves

-- what an event comes to at a seat of a network, where the lent memory is long enough
abbrev pub said_at : ℕ → Network → Seat → Event → Outcome
said_at window n seat e = said is_input window 2000000 ((window + 1) * 64) (peer_at n seat) e

-- with what happens at the seat; a packet that is not there is not counted
abbrev pub counted_at : ℕ → Network → Seat → Act → Tally → Tally
counted_at window n seat (Tick a) t = counted_by (Tick a) (said_at window n seat (tick a)) t
counted_at window n seat (Deliver k) t =
    cond (nat_lt k (length (packets_to n seat)))
    (counted_by (Deliver k) (said_at window n seat (arrival (get_or (map message_bytes (packets_to n seat)) k []))) t)
    t

-- with what happens at a seat, where it is the one that is counted
abbrev pub counted_for : Seat → ℕ → Network → Seat → Act → Tally → Tally
counted_for Left window n Left act t = counted_at window n Left act t
counted_for Left window n Right act t = t
counted_for Right window n Left act t = t
counted_for Right window n Right act t = counted_at window n Right act t

unfoldable pub tally_on : Seat → ℕ → Network → Tally → List Move → Tally
tally_on seat window n t [] = t
tally_on seat window n t (m ∷ ms) =
    tally_on seat window (acted window n m.seat m.act) (counted_for seat window n m.seat m.act t) ms

-- from the beginning
abbrev pub tally_after : ℕ → Seat → List Move → Tally
tally_after window seat ms = tally_on seat window new_network (record { lost = 0; refused = 0; played = 0; again = 0 }) ms
