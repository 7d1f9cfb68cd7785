-- A network of two is a network at two seats: each turn of the one is a turn of the other. Assumes nothing.
use Rattle.std.proofs.Common.{◌≡◌, ℕ, zero, suc, ◌<◌, Bool, true, false, cond, eqb, List, [], ◌∷◌, ◌++◌, sym, refl, ap, ◌∙◌, subst, append-nil, arith}
use Rattle.std.specs.Prelude.{◌≢◌}
use Rattle.std.proofs.lemmas.Bool.{cond-false, eqb-true, ne_eqb}
use Rattle.game.specs.Seats.{facing}
use Rattle.game.specs.declared.seat.Seat.{Seat as TwoSeat}
use Rattle.game.specs.declared.seat.Seat.TheVariants.{Left, Right}
use Rattle.network.specs.Network.{Network as TwoNetwork, Turn as TwoTurn, peer_at, packets_to, new_network as two_new, with_peer as two_with_peer, with_packet, written as two_written, handed as two_handed, turn as two_turn, turns as two_turns}
use Rattle.packet.specs.Wire.{Message, message_bytes}
use Rattle.peer.specs.Peers.{Log as TwoLog, Event as TwoEvent}
use Rattle.seats.specs.Packets.{Packet, packet_bytes}
use Rattle.seats.specs.Network.{Network, Seat, Turn, tick, send, deliver, new_network, with_peer, with_written, packet_from, with_delivery, with_turn, with_turns}
use Rattle.seats.specs.Peers.{Log, Event, least, with_event}
use Rattle.two_seats.specs.Two.{seat_number, log_of}
use Rattle.two_seats.proofs.Peers.{same_event}

pub below : (seat : TwoSeat) → seat_number seat < 2
below Left = omega arith
below Right = omega arith

abbrev pub at : TwoSeat → Seat 2
at seat = (seat_number seat, below seat)

-- the messages of a seat in the pool, and where in the pool message k of them stands
abbrev pub messages_from : ℕ → List Packet → List Message
messages_from i [] = []
messages_from i (l ∷ ls) = cond (eqb l.seat i) (l.message ∷ messages_from i ls) (messages_from i ls)

abbrev pub place : ℕ → List Packet → ℕ → ℕ
place i [] k = 0
place i (l ∷ ls) zero = cond (eqb l.seat i) 0 (suc (place i ls zero))
place i (l ∷ ls) (suc k) = suc (cond (eqb l.seat i) (place i ls k) (place i ls (suc k)))

-- both peers are the same, and to each the same was written
pub record Same (n : TwoNetwork) (m : Network) : Type 0 where
  pub peer : (seat : TwoSeat) → m.peers (seat_number seat) ≡ log_of seat (peer_at n seat)
  pub packets : (seat : TwoSeat) → messages_from (seat_number (facing seat)) m.packets ≡ packets_to n seat

cond_split : (b : Bool) (x : Message) (all front rest : List Message) → all ≡ front ++ rest → cond b (x ∷ all) all ≡ cond b (x ∷ front) front ++ rest
cond_split true x all front rest e = ap (λ ms. x ∷ ms) e
cond_split false x all front rest e = e

pub messages_append : (i : ℕ) (ls ks : List Packet) → messages_from i (ls ++ ks) ≡ messages_from i ls ++ messages_from i ks
messages_append i [] ks = refl
messages_append i (x ∷ xs) ks = cond_split (eqb x.seat i) x.message _ _ (messages_from i ks) (messages_append i xs ks)

same_new : Same two_new (new_network 2)
same_new = record { peer = by; packets = none }
  where
    by : (seat : TwoSeat) → (new_network 2).peers (seat_number seat) ≡ log_of seat (peer_at two_new seat)
    by Left = refl
    by Right = refl

    none : (seat : TwoSeat) → messages_from (seat_number (facing seat)) [] ≡ packets_to two_new seat
    none Left = refl
    none Right = refl

same_peer : (n : TwoNetwork) (m : Network) (seat : TwoSeat) (l : TwoLog) (log : Log) → log ≡ log_of seat l → Same n m → Same (two_with_peer n seat l) (with_peer m (seat_number seat) log)
same_peer n m seat l log e v = record { peer = by seat e; packets = same seat }
  where
    by : (i : TwoSeat) → log ≡ log_of i l → (s : TwoSeat) → (with_peer m (seat_number i) log).peers (seat_number s) ≡ log_of s (peer_at (two_with_peer n i l) s)
    by Left f Left = f
    by Left f Right = v.peer Right
    by Right f Left = v.peer Left
    by Right f Right = f

    same : (i s : TwoSeat) → messages_from (seat_number (facing s)) m.packets ≡ packets_to (two_with_peer n i l) s
    same Left Left = v.packets Left
    same Left Right = v.packets Right
    same Right Left = v.packets Left
    same Right Right = v.packets Right

same_packet : (n : TwoNetwork) (m : Network) (seat : TwoSeat) (x : Message) → Same n m → Same (with_packet n (facing seat) x) (with_written m (record { seat = seat_number seat; message = x }))
same_packet n m seat x v = record { peer = same seat; packets = by seat }
  where
    same : (i s : TwoSeat) → m.peers (seat_number s) ≡ log_of s (peer_at (with_packet n (facing i) x) s)
    same Left Left = v.peer Left
    same Left Right = v.peer Right
    same Right Left = v.peer Left
    same Right Right = v.peer Right

    by : (i s : TwoSeat) → messages_from (seat_number (facing s)) (m.packets ++ record { seat = seat_number i; message = x } ∷ []) ≡ packets_to (with_packet n (facing i) x) s
    by Left Left = messages_append 1 m.packets (record { seat = 0; message = x } ∷ []) ∙ ap (λ ms. ms ++ []) (v.packets Left) ∙ append-nil n.to_left
    by Left Right = messages_append 0 m.packets (record { seat = 0; message = x } ∷ []) ∙ ap (λ ms. ms ++ x ∷ []) (v.packets Right)
    by Right Left = messages_append 1 m.packets (record { seat = 1; message = x } ∷ []) ∙ ap (λ ms. ms ++ x ∷ []) (v.packets Left)
    by Right Right = messages_append 0 m.packets (record { seat = 1; message = x } ∷ []) ∙ ap (λ ms. ms ++ []) (v.packets Right) ∙ append-nil n.to_right

pub seat_is : (seat : TwoSeat) (l : TwoLog) → (log_of seat l).seat ≡ seat_number seat
seat_is Left l = refl
seat_is Right l = refl

pub apart : (seat : TwoSeat) → seat_number (facing seat) ≢ seat_number seat
apart Left e = omega arith
apart Right e = omega arith

pub written_same : (seat : TwoSeat) (l : TwoLog) (from k : ℕ) → ◌≡◌ {A = Packet} (packet_from (log_of seat l) from k) (record { seat = seat_number seat; message = two_written l from k })
unfolding packet_from two_written least
written_same Left l from k = refl
written_same Right l from k = refl

module _ (fits : ℕ → Bool) (window : ℕ) where
  -- packet k of the other seat, by whether the first packet is one of it
  handed_first : (seat : TwoSeat) (l : TwoLog) (x : Packet) (xs : List Packet) (b : Bool) → eqb x.seat (seat_number (facing seat)) ≡ b →
      (with_delivery fits window 2 (log_of seat l) xs (place (seat_number (facing seat)) xs zero) ≡ log_of seat (two_handed fits window l (messages_from (seat_number (facing seat)) xs) zero)) →
      with_delivery fits window 2 (log_of seat l) (x ∷ xs) (cond b 0 (suc (place (seat_number (facing seat)) xs zero))) ≡ log_of seat (two_handed fits window l (cond b (x.message ∷ messages_from (seat_number (facing seat)) xs) (messages_from (seat_number (facing seat)) xs)) zero)
  unfolding with_delivery two_handed packet_bytes
  handed_first seat l x xs true e rest =
      cond-false (eqb x.seat (log_of seat l).seat) _ _ (ne_eqb x.seat (log_of seat l).seat (λ f. apart seat (sym (eqb-true x.seat (seat_number (facing seat)) e) ∙ f ∙ seat_is seat l)))
      ∙ same_event fits window seat l (TwoEvent.arrival (message_bytes x.message))
  handed_first seat l x xs false e rest = rest

  handed_later : (seat : TwoSeat) (l : TwoLog) (x : Message) (xs : List Packet) (k : ℕ) (b : Bool) →
      ((k : ℕ) → with_delivery fits window 2 (log_of seat l) xs (place (seat_number (facing seat)) xs k) ≡ log_of seat (two_handed fits window l (messages_from (seat_number (facing seat)) xs) k)) →
      with_delivery fits window 2 (log_of seat l) xs (cond b (place (seat_number (facing seat)) xs k) (place (seat_number (facing seat)) xs (suc k))) ≡ log_of seat (two_handed fits window l (cond b (x ∷ messages_from (seat_number (facing seat)) xs) (messages_from (seat_number (facing seat)) xs)) (suc k))
  unfolding two_handed
  handed_later seat l x xs k true rest = rest k
  handed_later seat l x xs k false rest = rest (suc k)

  handed_same : (seat : TwoSeat) (l : TwoLog) (ls : List Packet) (k : ℕ) → with_delivery fits window 2 (log_of seat l) ls (place (seat_number (facing seat)) ls k) ≡ log_of seat (two_handed fits window l (messages_from (seat_number (facing seat)) ls) k)
  unfolding with_delivery two_handed
  handed_same seat l [] k = refl
  handed_same seat l (x ∷ xs) zero = handed_first seat l x xs (eqb x.seat (seat_number (facing seat))) refl (handed_same seat l xs zero)
  handed_same seat l (x ∷ xs) (suc k) = handed_later seat l x.message xs k (eqb x.seat (seat_number (facing seat))) (handed_same seat l xs)

  -- ---- turn by turn

  abbrev pub turn_of : Network → TwoTurn → Turn 2
  turn_of m (TwoTurn.tick seat a) = tick (at seat) a
  turn_of m (TwoTurn.send seat from k) = send (at seat) from k
  turn_of m (TwoTurn.deliver seat k) = deliver (at seat) (place (seat_number (facing seat)) m.packets k)

  pub same_turn : (n : TwoNetwork) (m : Network) (t : TwoTurn) → Same n m → Same (two_turn fits window n t) (with_turn fits window m (turn_of m t))
  unfolding with_turn two_turn
  same_turn n m (TwoTurn.tick seat a) v =
      same_peer n m seat _ _ (ap (λ log. with_event fits window log (Event.tick a)) (v.peer seat) ∙ same_event fits window seat (peer_at n seat) (TwoEvent.tick a)) v
  same_turn n m (TwoTurn.send seat from k) v =
      let l : TwoLog = peer_at n seat in
      subst (λ x. Same (two_turn fits window n (TwoTurn.send seat from k)) (with_written m x)) (sym (ap (λ log. packet_from log from k) (v.peer seat) ∙ written_same seat l from k))
      (same_packet n m seat (two_written l from k) v)
  same_turn n m (TwoTurn.deliver seat k) v =
      let to : ℕ = place (seat_number (facing seat)) m.packets k in
      same_peer n m seat _ _
      (ap (λ log. with_delivery fits window 2 log m.packets to) (v.peer seat)
      ∙ handed_same seat (peer_at n seat) m.packets k
      ∙ ap (λ ms. log_of seat (two_handed fits window (peer_at n seat) ms k)) (v.packets seat)) v

  abbrev pub turns_of : Network → List TwoTurn → List (Turn 2)
  turns_of m [] = []
  turns_of m (t ∷ ts) = turn_of m t ∷ turns_of (with_turn fits window m (turn_of m t)) ts

  pub same_turns : (n : TwoNetwork) (m : Network) (ts : List TwoTurn) → Same n m → Same (two_turns fits window n ts) (with_turns fits window m (turns_of m ts))
  unfolding with_turns two_turns
  same_turns n m [] v = v
  same_turns n m (t ∷ ts) v = same_turns (two_turn fits window n t) (with_turn fits window m (turn_of m t)) ts (same_turn n m t v)

  pub same_network : (ts : List TwoTurn) → Same (two_turns fits window two_new ts) (with_turns fits window (new_network 2) (turns_of (new_network 2) ts))
  same_network ts = same_turns two_new (new_network 2) ts same_new
