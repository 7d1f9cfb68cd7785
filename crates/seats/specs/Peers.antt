-- What a peer is and does: it plays on without waiting for the others' inputs, and predicts those
-- that have not come. Assumes nothing: these are definitions.
use Rattle.std.specs.Prelude.{◌≡◌, ℕ, suc, ◌+◌, ◌-◌, ◌<◌, min, max, Bool, if◌then◌else◌, ◌&&◌, List, [], ◌∷◌, ◌++◌, map, length, get_or, take, drop, set, replicate, unwrap_or, Ok, Err, Result, ◌==◌, nat_lt, slice_index}
use Rattle.std.specs.List.{reduce}
use Rattle.packet.specs.Wire.{Message}
use Rattle.peer.specs.Peers.{joined}
use Rattle.seats.specs.Packets.{Packet, ReadError, most_packet_inputs, packet_in}
use Rattle.seats.specs.Plain.{Game, most_frames, inputs_at, plays}

-- ---- what a peer has

-- its seat; the inputs of each seat, its own and the others' as far as they came without a gap; and
-- the most of its own inputs that each seat acknowledged
pub record Log : Type 0 where
  pub seat : ℕ
  pub rows : List (List ℕ)
  pub acked : List ℕ

abbrev pub new_log : ℕ → ℕ → Log
new_log seats seat = record { seat = seat; rows = replicate seats []; acked = replicate seats 0 }

abbrev pub row : Log → ℕ → List ℕ
row log seat = get_or log.rows seat []

abbrev pub own : Log → List ℕ
own log = row log log.seat

-- how many inputs it has of each seat
abbrev pub counts : Log → List ℕ
counts log = map length log.rows

-- how many frames it has played: one for each of its own inputs
abbrev pub frames : Log → ℕ
frames log = length (own log)

-- ---- the slowest

-- the least of some numbers, and 0 where there are none
unfoldable pub least : List ℕ → ℕ
least xs = unwrap_or (reduce min xs) 0

-- all but what belongs to one seat
abbrev pub others : {A : Type 0} → ℕ → List A → List A
others seat xs = take seat xs ++ drop (suc seat) xs

-- the fewest inputs that it has of another seat
abbrev pub fewest : Log → ℕ
fewest log = least (others log.seat (counts log))

-- as many of its own inputs are acknowledged by every other seat
abbrev pub acked_by_all : Log → ℕ
acked_by_all log = least (others log.seat log.acked)

-- ---- what happens to it

-- a frame's time, with the input at its own seat; bytes that came, right or wrong
pub data Event : Type 0 where
  tick : ℕ → Event
  arrival : List ℕ → Event

-- the largest window that is agreed on
abbrev pub largest_window : ℕ
largest_window = 60

-- whether a tick plays a frame: it is not too far ahead of the slowest other, nor at the end
abbrev pub may_play : ℕ → Log → Bool
may_play window log =
    nat_lt (length (own log)) most_frames && nat_lt (length (own log)) (fewest log + window)

abbrev pub with_row : Log → ℕ → List ℕ → Log
with_row log seat xs = record { seat = log.seat; rows = set log.rows seat xs; acked = log.acked }

abbrev pub with_acked : Log → ℕ → ℕ → Log
with_acked log seat n = record { seat = log.seat; rows = log.rows; acked = set log.acked seat n }

-- a message of another seat: its inputs join on, and what it acknowledges is known
abbrev pub with_message : Log → ℕ → Message → Log
with_message log seat m =
    with_acked (with_row log seat (joined (row log seat) m)) seat
    (max (get_or log.acked seat 0) m.ack)

-- a packet of its own seat, and one that is refused, change nothing
unfoldable pub with_packet : Log → Result Packet ReadError → Log
with_packet log (Ok p) = if p.seat == log.seat then log else with_message log p.seat p.message
with_packet log (Err f) = log

unfoldable pub with_event : (ℕ → Bool) → ℕ → Log → Event → Log
with_event fits window log (tick a) =
    if fits a && may_play window log then with_row log log.seat (own log ++ a ∷ []) else log
with_event fits window log (arrival xs) =
    with_packet log (packet_in (length log.rows) log.seat (length (own log)) xs)

unfoldable pub with_events : (ℕ → Bool) → ℕ → Log → List Event → Log
with_events fits window log [] = log
with_events fits window log (e ∷ es) = with_events fits window (with_event fits window log e) es

-- ---- what it shows

-- a seat's input in frame k: the one that came, else the last that came, or 0 where none came
abbrev pub predicted_input : List ℕ → ℕ → ℕ
predicted_input row k = slice_index row (min k (length row - 1))

-- and those of all seats
abbrev pub predicted_inputs : List (List ℕ) → ℕ → List ℕ
predicted_inputs rows k = map (λ row. predicted_input row k) rows

-- what came of every seat since is what was predicted, as far as frames were played
abbrev pub AsPredicted : Log → Log → Type 0
AsPredicted before after =
    (seat k : ℕ) → seat < length before.rows → k < frames before → k < length (row after seat) →
    slice_index (row after seat) k ≡ predicted_input (row before seat) k

-- the plain game with all inputs, predicted where they have not come
abbrev pub shown_state : {S : Type 0} → Game S → Log → S
shown_state g log = plays g g.start (predicted_inputs log.rows) (frames log)

-- ---- what is confirmed

-- confirmed are the frames that it played and of which it has the inputs of all seats
abbrev pub confirmed : Log → ℕ
confirmed log = min (frames log) (least (counts log))

-- the plain game with the first k inputs that it has of all
abbrev pub confirmed_state : {S : Type 0} → Game S → Log → ℕ → S
confirmed_state g log k = plays g g.start (inputs_at log.rows) k

-- ---- what it sends, one packet to all

-- its inputs from the most on that all acknowledged, and the fewest that it has of another
abbrev pub sent_packet : Log → Packet
sent_packet log =
    let from : ℕ = acked_by_all log in
    record {
      seat = log.seat;
      message =
          record {
            first = from;
            inputs = take most_packet_inputs (drop from (own log));
            ack = fewest log;
          };
    }
