-- Two seats, as peers at any number of seats.
-- Assumes nothing: these are definitions, and statements that are proved in proofs/.
use Rattle.std.specs.Prelude.{◌≡◌, ℕ, ◌≤◌, Bool, List, [], ◌∷◌, map, slice_index}
use Rattle.game.specs.Plain.{Game as TwoGame}
use Rattle.game.specs.declared.seat.Seat.{Seat}
use Rattle.game.specs.declared.seat.Seat.TheVariants.{Left, Right}
use Rattle.packet.specs.Wire.{Message, message_bytes}
use Rattle.peer.specs.Peers.{Log as TwoLog, Event as TwoEvent, event as two_event, run as two_run, shows as two_shows, confirmed as two_confirmed, confirmed_at as two_confirmed_at, sends as two_sends}
use Rattle.seats.specs.Packets.{packet_bytes}
use Rattle.seats.specs.Peers.{Log, Event, with_event, with_events, shown_state, confirmed, confirmed_state, sent_packet}
use Rattle.seats.specs.Plain.{Game}

abbrev pub seat_number : Seat → ℕ
seat_number Left = 0
seat_number Right = 1

abbrev pub game_of : {S : Type 0} → TwoGame S → Game S
game_of g =
    record {
      start = g.start;
      frame = λ s inputs. g.frame s (slice_index inputs 0) (slice_index inputs 1);
    }

abbrev pub log_of : Seat → TwoLog → Log
log_of Left l = record { seat = 0; rows = l.own ∷ l.other ∷ []; acked = 0 ∷ l.acked ∷ [] }
log_of Right l = record { seat = 1; rows = l.other ∷ l.own ∷ []; acked = l.acked ∷ 0 ∷ [] }

abbrev pub event_of : TwoEvent → Event
event_of (TwoEvent.tick a) = Event.tick a
event_of (TwoEvent.arrival xs) = Event.arrival xs

-- a packet's bytes are those of its message
abbrev pub SameBytes : Type 0
SameBytes =
    (seat : ℕ) (m : Message) →
    packet_bytes 2 (record { seat = seat; message = m }) ≡ message_bytes m

-- the same happens to a peer in every event
abbrev pub SameEvent : Type 0
SameEvent =
    (fits : ℕ → Bool) (window : ℕ) (seat : Seat) (l : TwoLog) (e : TwoEvent) →
    with_event fits window (log_of seat l) (event_of e) ≡ log_of seat (two_event fits window l e)

-- so in every row of events
abbrev pub SameEvents : Type 0
SameEvents =
    (fits : ℕ → Bool) (window : ℕ) (seat : Seat) (l : TwoLog) (es : List TwoEvent) →
    with_events fits window (log_of seat l) (map event_of es)
    ≡ log_of seat (two_run fits window l es)

-- it is sure of as much, shows the same, and sends the same
abbrev pub SameStanding : Type 0 → Type 0
SameStanding S =
    (g : TwoGame S) (seat : Seat) (l : TwoLog) →
    (confirmed (log_of seat l) ≡ two_confirmed l)
    × (shown_state (game_of g) (log_of seat l) ≡ two_shows g seat l)
    × ((k : ℕ) → k ≤ two_confirmed l →
    confirmed_state (game_of g) (log_of seat l) k ≡ two_confirmed_at g seat l k)
    × (sent_packet (log_of seat l) ≡ record { seat = seat_number seat; message = two_sends l })
