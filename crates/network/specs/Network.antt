-- Two peers, and all packets that they ever wrote, any of which may come at any time, again and again, or never.
-- Assumes nothing: these are definitions.
use Rattle.std.specs.Prelude.{ℕ, zero, suc, min, Bool, List, [], ◌∷◌, ◌++◌, length, take, drop}
pub use Rattle.game.specs.Seats.{facing}
use Rattle.game.specs.declared.seat.Seat.{Seat}
use Rattle.game.specs.declared.seat.Seat.TheVariants.{Left, Right}
use Rattle.packet.specs.Wire.{Message, message_bytes}
use Rattle.peer.specs.Peers.{Log, Event, new_log, event}

-- both peers, and the packets that were ever written to each, in order
pub record Network : Type 0 where
  pub left : Log
  pub right : Log
  pub to_left : List Message
  pub to_right : List Message

abbrev pub new_network : Network
new_network = record { left = new_log; right = new_log; to_left = []; to_right = [] }

-- ---- by seats

-- the peer at a seat
abbrev pub peer_at : Network → Seat → Log
peer_at n Left = n.left
peer_at n Right = n.right

-- the packets written to it
abbrev pub packets_to : Network → Seat → List Message
packets_to n Left = n.to_left
packets_to n Right = n.to_right

-- with another log there, and all else as it was
abbrev pub with_peer : Network → Seat → Log → Network
with_peer n Left log = record { left = log; right = n.right; to_left = n.to_left; to_right = n.to_right }
with_peer n Right log = record { left = n.left; right = log; to_left = n.to_left; to_right = n.to_right }

-- with one more packet written to it, and all else as it was
abbrev pub with_packet : Network → Seat → Message → Network
with_packet n Left m = record { left = n.left; right = n.right; to_left = n.to_left ++ m ∷ []; to_right = n.to_right }
with_packet n Right m = record { left = n.left; right = n.right; to_left = n.to_left; to_right = n.to_right ++ m ∷ [] }

-- ---- what happens

-- a frame's time at a seat, with the input there; the peer at a seat writes a packet with its inputs from a frame on, so many;
-- the packet at a place of those written to a seat is handed over there
pub data Turn : Type 0 where
  tick : Seat → ℕ → Turn
  send : Seat → ℕ → ℕ → Turn
  deliver : Seat → ℕ → Turn

-- a packet with any part of a peer's inputs, at most 120, and how many of the other's it has
unfoldable pub written : Log → ℕ → ℕ → Message
written log from n =
    record {
      first = min from (length log.own);
      inputs = take (min n 120) (drop (min from (length log.own)) log.own);
      ack = length log.other;
    }

-- the bytes of packet k come; nothing happens if there is no such packet
unfoldable pub handed : (ℕ → Bool) → ℕ → Log → List Message → ℕ → Log
handed fits window log [] k = log
handed fits window log (m ∷ ms) zero = event fits window log (Event.arrival (message_bytes m))
handed fits window log (m ∷ ms) (suc k) = handed fits window log ms k

unfoldable pub turn : (ℕ → Bool) → ℕ → Network → Turn → Network
turn fits window n (tick seat a) = with_peer n seat (event fits window (peer_at n seat) (Event.tick a))
turn fits window n (send seat from k) = with_packet n (facing seat) (written (peer_at n seat) from k)
turn fits window n (deliver seat k) = with_peer n seat (handed fits window (peer_at n seat) (packets_to n seat) k)

unfoldable pub turns : (ℕ → Bool) → ℕ → Network → List Turn → Network
turns fits window n [] = n
turns fits window n (t ∷ ts) = turns fits window (turn fits window n t) ts

-- every network: what a row of turns makes of the new one
abbrev pub network : (ℕ → Bool) → ℕ → List Turn → Network
network fits window ts = turns fits window new_network ts
