-- As many peers as there are seats, and one pool of all packets that they ever wrote, any of which
-- may come to any peer at any time, from its sender or passed on, again and again, or never.
-- Assumes nothing: these are definitions.
use Rattle.std.specs.Prelude.{ℕ, zero, suc, ◌<◌, min, Bool, if◌then◌else◌, ◌&&◌, not, List, [], ◌∷◌, ◌++◌, length, take, drop, ◌==◌, nat_lt}
use Rattle.seats.specs.Packets.{Packet, most_packet_inputs, packet_bytes}
use Rattle.seats.specs.Peers.{Log, Event, new_log, own, fewest, with_event}

-- one of so many seats
abbrev pub Seat : ℕ → Type 0
Seat seats = (i : ℕ) × (i < seats)

-- the peer at each seat, and all packets that were ever written, in order
pub record Network : Type 0 where
  pub peers : ℕ → Log
  pub packets : List Packet

abbrev pub new_network : ℕ → Network
new_network seats = record { peers = new_log seats; packets = [] }

-- with another log at a seat, and all else as it was
abbrev pub with_peer : Network → ℕ → Log → Network
with_peer n seat log =
    record { peers = λ i. if i == seat then log else n.peers i; packets = n.packets }

-- with one more packet, and all else as it was
abbrev pub with_written : Network → Packet → Network
with_written n p = record { peers = n.peers; packets = n.packets ++ p ∷ [] }

-- ---- what happens

-- a frame's time at a seat, with the input there; the peer at a seat writes a packet with its
-- inputs from one on, so many; the packet at a place of the pool is handed over at a seat
pub data Turn (seats : ℕ) : Type 0 where
  tick : Seat seats → ℕ → Turn seats
  send : Seat seats → ℕ → ℕ → Turn seats
  deliver : Seat seats → ℕ → Turn seats

-- a packet with any part of a peer's inputs, and the fewest that it has of another
unfoldable pub packet_from : Log → ℕ → ℕ → Packet
packet_from log from n =
    let first : ℕ = min from (length (own log)) in
    record {
      seat = log.seat;
      message =
          record {
            first = first;
            inputs = take (min n most_packet_inputs) (drop first (own log));
            ack = fewest log;
          };
    }

-- the bytes of packet k come; nothing happens if there is no such packet. Between two, where
-- packets do not say whose they are, none comes back to its sender
unfoldable pub with_delivery : (ℕ → Bool) → ℕ → ℕ → Log → List Packet → ℕ → Log
with_delivery fits window seats log [] k = log
with_delivery fits window seats log (p ∷ ps) zero =
    if not (nat_lt 2 seats) && p.seat == log.seat then log
    else with_event fits window log (Event.arrival (packet_bytes seats p))
with_delivery fits window seats log (p ∷ ps) (suc k) = with_delivery fits window seats log ps k

unfoldable pub with_turn : (ℕ → Bool) → ℕ → {seats : ℕ} → Network → Turn seats → Network
with_turn fits window n (tick i a) =
    with_peer n i.0 (with_event fits window (n.peers i.0) (Event.tick a))
with_turn fits window n (send i from k) = with_written n (packet_from (n.peers i.0) from k)
with_turn fits window {seats = seats} n (deliver i k) =
    with_peer n i.0 (with_delivery fits window seats (n.peers i.0) n.packets k)

unfoldable pub with_turns : (ℕ → Bool) → ℕ → {seats : ℕ} → Network → List (Turn seats) → Network
with_turns fits window n [] = n
with_turns fits window n (t ∷ ts) = with_turns fits window (with_turn fits window n t) ts

-- every network: what a row of turns makes of the new one
abbrev pub network : (ℕ → Bool) → ℕ → {seats : ℕ} → List (Turn seats) → Network
network fits window {seats = seats} ts = with_turns fits window (new_network seats) ts
