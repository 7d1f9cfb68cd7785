-- What is promised of two, from what holds of all seats. Assumes nothing.
use native.Mathlib.Bridge.{le_prop}
use Rattle.std.proofs.Common.{◌≡◌, ℕ, zero, suc, ◌<◌, ◌≤◌, Bool, true, false, eqb, List, [], ◌∷◌, ◌++◌, map, length, get_or, take, Ok, sym, refl, ap, ap₂, ◌∙◌, subst, inl, inr, append_assoc, arith}
use Rattle.std.specs.Prelude.{◌≢◌}
use Rattle.std.specs.List.{AllByRecursion}
use Rattle.std.proofs.lemmas.Bool.{cond_both, cond-true, cond-false, eqb-true, ne_eqb, eq-eqb, cases_Bool}
use Rattle.game.specs.Seats.{facing}
use Rattle.game.specs.declared.seat.Seat.{Seat as TwoSeat}
use Rattle.game.specs.declared.seat.Seat.TheVariants.{Left, Right}
use Rattle.network.specs.Network.{Network as TwoNetwork, Turn as TwoTurn, peer_at, packets_to, network as two_network}
use Rattle.network.specs.Promise.{Begins, SameInputs, OneGame, NotFar, NoneRefused, PeersRun, StaysSure, SendsWritten, BothSure, BothSureAt, Came as TwoCame}
use Rattle.packet.specs.Wire.{Message, message_bytes, reading}
use Rattle.peer.specs.Peers.{Log as TwoLog, Event as TwoEvent, new_log as two_new_log, run as two_run, confirmed as two_confirmed}
use Rattle.seats.specs.Packets.{Packet, packet_bytes, packet_in}
use Rattle.seats.specs.Network.{Network, Seat, Turn, send, deliver, new_network, packet_from, with_turn, with_turns, network}
use Rattle.seats.specs.Peers.{Log, Event, new_log, with_events, sent_packet, row, own, fewest, acked_by_all, least, confirmed, confirmed_state}
use Rattle.seats.specs.Promise.{Came, AllSureAt, Stays}
use Rattle.seats.proofs.Arrivals.{all_sure}
use Rattle.seats.proofs.Networks.{same_inputs, one_game, none_refused}
use Rattle.seats.proofs.Packets.{two_read}
use Rattle.seats.proofs.OnePeer.{stays_sure, sends_written}
use Rattle.seats.proofs.Turns.{not_far, peers_run, packets_turns}
use Rattle.two_seats.specs.Two.{seat_number, game_of, log_of, event_of}
use Rattle.two_seats.proofs.Networks.{below, at, messages_from, place, Same, turn_of, turns_of, same_network, seat_is, apart, written_same}
use Rattle.two_seats.proofs.Peers.{same_events, same_standing}

-- ---- what a log of two has

pub own_is : (seat : TwoSeat) (l : TwoLog) → own (log_of seat l) ≡ l.own
own_is Left l = refl
own_is Right l = refl

mine_is : (seat : TwoSeat) (l : TwoLog) → row (log_of seat l) (seat_number seat) ≡ l.own
mine_is Left l = refl
mine_is Right l = refl

other_is : (seat : TwoSeat) (l : TwoLog) → row (log_of seat l) (seat_number (facing seat)) ≡ l.other
other_is Left l = refl
other_is Right l = refl

across_is : (seat : TwoSeat) (l : TwoLog) → row (log_of (facing seat) l) (seat_number seat) ≡ l.other
across_is Left l = refl
across_is Right l = refl

fewest_is : (seat : TwoSeat) (l : TwoLog) → fewest (log_of seat l) ≡ length l.other
unfolding least
fewest_is Left l = refl
fewest_is Right l = refl

acked_is : (seat : TwoSeat) (l : TwoLog) → acked_by_all (log_of seat l) ≡ l.acked
unfolding least
acked_is Left l = refl
acked_is Right l = refl

confirmed_is : (seat : TwoSeat) (l : TwoLog) → confirmed (log_of seat l) ≡ two_confirmed l
unfolding least
confirmed_is Left l = omega arith
confirmed_is Right l = omega arith

-- ---- at every network

pub two_same_inputs : SameInputs
two_same_inputs fits window ts narrow seat =
    let us : List (Turn 2) = turns_of fits window (new_network 2) ts in
    let v = same_network fits window ts in
    let n : TwoNetwork = two_network fits window ts in
    let m : Network = network fits window us in
    let me : TwoLog = peer_at n seat in
    let you : TwoLog = peer_at n (facing seat) in
    let all = same_inputs fits window 2 us narrow (at seat) (at (facing seat)) in
    let here = ap confirmed (v.peer seat) ∙ confirmed_is seat me in
    let there = ap confirmed (v.peer (facing seat)) ∙ confirmed_is (facing seat) you in
    let other : row (m.peers (seat_number seat)) (seat_number (facing seat)) ≡ me.other = ap (λ (log : Log). row log (seat_number (facing seat))) (v.peer seat) ∙ other_is seat me in
    let made : own (m.peers (seat_number (facing seat))) ≡ you.own = ap own (v.peer (facing seat)) ∙ own_is (facing seat) you in (
      subst (λ xs. Begins xs you.own) other (subst (λ ys. Begins (row (m.peers (seat_number seat)) (seat_number (facing seat))) ys) made all.0),
      λ k p q.
          ap (take k) (sym (ap (λ (log : Log). row log (seat_number seat)) (v.peer seat) ∙ mine_is seat me))
          ∙ all.1 k (at seat) (omega (arith, p, here)) (omega (arith, q, there))
          ∙ ap (take k) (ap (λ (log : Log). row log (seat_number seat)) (v.peer (facing seat)) ∙ across_is seat you),
    )

pub two_one_game : (S : Type 0) → OneGame S
two_one_game S g fits window ts narrow k p q =
    let us : List (Turn 2) = turns_of fits window (new_network 2) ts in
    let v = same_network fits window ts in
    let n : TwoNetwork = two_network fits window ts in
    let here = ap confirmed (v.peer Left) ∙ confirmed_is Left n.left in
    let there = ap confirmed (v.peer Right) ∙ confirmed_is Right n.right in
    sym ((same_standing S g Left n.left).2 k p)
    ∙ sym (ap (λ log. confirmed_state (game_of g) log k) (v.peer Left))
    ∙ one_game S (game_of g) fits window 2 us narrow (at Left) (at Right) k (omega (arith, p, here)) (omega (arith, q, there))
    ∙ ap (λ log. confirmed_state (game_of g) log k) (v.peer Right)
    ∙ (same_standing S g Right n.right).2 k q

pub two_not_far : NotFar
two_not_far fits window ts seat =
    let us : List (Turn 2) = turns_of fits window (new_network 2) ts in
    let v = same_network fits window ts in
    let l : TwoLog = peer_at (two_network fits window ts) seat in
    omega (arith, not_far fits window 2 us (at seat), ap length (ap own (v.peer seat) ∙ own_is seat l), ap fewest (v.peer seat) ∙ fewest_is seat l)

-- of the packets that one of them wrote
all_from : (own j i : ℕ) → j ≢ i → (ps : List Packet) → AllByRecursion (λ p. (p.seat ≡ i → 2 < 2) → packet_in 2 i own (packet_bytes 2 p) ≡ Ok p) ps → AllByRecursion (λ m. reading own (message_bytes m) ≡ Ok m) (messages_from j ps)
unfolding packet_bytes
all_from own j i other [] a = tt
all_from own j i other (p ∷ ps) a =
    let rest = all_from own j i other ps a.1 in
    let m : Message = p.message in
    cond_both (eqb p.seat j) (m ∷ messages_from j ps) (messages_from j ps) (AllByRecursion (λ m. reading own (message_bytes m) ≡ Ok m))
    (λ e.
    let apart : p.seat ≢ i = λ f. other (sym (eqb-true p.seat j e) ∙ f) in
    let read = (two_read 2 i own (message_bytes m) p (omega arith) (a.0 (λ f. absurd (apart f)))).read in
    (subst (λ n. reading n (message_bytes m) ≡ Ok m) (cond-false (eqb p.seat i) m.ack own (ne_eqb p.seat i apart)) read, rest))
    (λ _. rest)

pub two_none_refused : NoneRefused
two_none_refused fits window ts narrow seat =
    let us : List (Turn 2) = turns_of fits window (new_network 2) ts in
    let v = same_network fits window ts in
    let me : TwoLog = peer_at (two_network fits window ts) seat in
    let m : Network = network fits window us in
    let i : ℕ = seat_number seat in
    let mine : own (m.peers i) ≡ me.own = ap own (v.peer seat) ∙ own_is seat me in
    let all = none_refused fits window 2 us narrow (at seat) in
    subst (AllByRecursion (λ x. reading (length me.own) (message_bytes x) ≡ Ok x)) (v.packets seat)
    (all_from (length me.own) (seat_number (facing seat)) i (apart seat) m.packets
    (subst (λ xs. AllByRecursion (λ p. (p.seat ≡ i → 2 < 2) → packet_in 2 i (length xs) (packet_bytes 2 p) ≡ Ok p) m.packets) mine all))

-- ---- one peer

-- what a log at two seats has of one of the two
abbrev pub two_log : TwoSeat → Log → TwoLog
two_log Left log = record { own = row log 0; other = row log 1; acked = get_or log.acked 1 0 }
two_log Right log = record { own = row log 1; other = row log 0; acked = get_or log.acked 0 0 }

two_log_is : (seat : TwoSeat) (l : TwoLog) → two_log seat (log_of seat l) ≡ l
two_log_is Left l = refl
two_log_is Right l = refl

new_is : (seat : TwoSeat) → new_log 2 (seat_number seat) ≡ log_of seat two_new_log
new_is Left = refl
new_is Right = refl

abbrev pub two_events : List Event → List TwoEvent
two_events [] = []
two_events (Event.tick a ∷ es) = TwoEvent.tick a ∷ two_events es
two_events (Event.arrival xs ∷ es) = TwoEvent.arrival xs ∷ two_events es

two_events_is : (es : List Event) → map event_of (two_events es) ≡ es
two_events_is [] = refl
two_events_is (Event.tick a ∷ es) = ap (λ fs. Event.tick a ∷ fs) (two_events_is es)
two_events_is (Event.arrival xs ∷ es) = ap (λ fs. Event.arrival xs ∷ fs) (two_events_is es)

-- what events make of the new log of two
from_new : (fits : ℕ → Bool) (window : ℕ) (seat : TwoSeat) (es : List TwoEvent) → with_events fits window (new_log 2 (seat_number seat)) (map event_of es) ≡ log_of seat (two_run fits window two_new_log es)
from_new fits window seat es =
    ap (λ log. with_events fits window log (map event_of es)) (new_is seat) ∙ same_events fits window seat two_new_log es

pub two_peers_run : PeersRun
two_peers_run fits window ts seat =
    let r = peers_run fits window 2 (turns_of fits window (new_network 2) ts) (at seat) in
    let es : List TwoEvent = two_events r.0 in (
      es,
      sym (two_log_is seat (peer_at (two_network fits window ts) seat))
          ∙ ap (two_log seat) (sym ((same_network fits window ts).peer seat) ∙ r.1 ∙ ap (with_events fits window (new_log 2 (seat_number seat))) (sym (two_events_is r.0)) ∙ from_new fits window seat es)
          ∙ two_log_is seat (two_run fits window two_new_log es),
    )

pub two_stays_sure : (S : Type 0) → StaysSure S
two_stays_sure S g seat fits window l es =
    let to : TwoLog = two_run fits window l es in
    let stays : Stays (game_of g) (log_of seat l) (log_of seat to) =
    subst (Stays (game_of g) (log_of seat l)) (same_events fits window seat l es) (stays_sure S (game_of g) fits window (log_of seat l) (map event_of es)) in
    let more : two_confirmed l ≤ two_confirmed to = omega (arith, stays.0, confirmed_is seat l, confirmed_is seat to) in (
      more,
      subst (λ xs. Begins xs to.own) (mine_is seat l) (subst (Begins (row (log_of seat l) (seat_number seat))) (mine_is seat to) (stays.1 (seat_number seat))),
      subst (λ xs. Begins xs to.other) (other_is seat l) (subst (Begins (row (log_of seat l) (seat_number (facing seat)))) (other_is seat to) (stays.1 (seat_number (facing seat)))),
      λ k h.
          sym ((same_standing S g seat l).2 k h)
          ∙ stays.2 k (omega (arith, h, confirmed_is seat l))
          ∙ (same_standing S g seat to).2 k (omega (arith, h, more)),
    )

pub two_sends_written : SendsWritten
unfolding least two_run
two_sends_written fits window es =
    let l : TwoLog = two_run fits window two_new_log es in
    let is : with_events fits window (new_log 2 0) (map event_of es) ≡ log_of Left l = from_new fits window Left es in
    ap (λ (p : Packet). p.message)
    (subst (λ log. sent_packet log ≡ packet_from log (acked_by_all log) 120) is (sends_written fits window 2 (at Left) (map event_of es) (omega arith))
    ∙ ap (λ n. packet_from (log_of Left l) n 120) (acked_is Left l)
    ∙ written_same Left l l.acked 120)

-- ---- a packet of each

-- the packet behind some others is the one behind the messages of its seat
place_next : (i : ℕ) (x : Packet) (ls : List Packet) (k : ℕ) → eqb x.seat i ≡ false → place i (x ∷ ls) k ≡ suc (place i ls k)
place_next i x ls zero e = cond-false (eqb x.seat i) _ _ e
place_next i x ls (suc k) e = ap suc (cond-false (eqb x.seat i) _ _ e)

place_end : (i : ℕ) (ls : List Packet) (l : Packet) (zs : List Packet) → eqb l.seat i ≡ true → place i (ls ++ l ∷ zs) (length (messages_from i ls)) ≡ length ls
place_end i [] l zs e = cond-true (eqb l.seat i) _ _ e
place_end i (x ∷ xs) l zs e =
    let rest = place_end i xs l zs e in
    elim (cases_Bool (eqb x.seat i)) [
      | inl t ↦
          ap (λ ms. place i (x ∷ (xs ++ l ∷ zs)) (length ms)) (cond-true (eqb x.seat i) (x.message ∷ messages_from i xs) (messages_from i xs) t)
          ∙ ap suc (cond-true (eqb x.seat i) _ _ t)
          ∙ ap suc rest
      | inr f ↦
          ap (λ ms. place i (x ∷ (xs ++ l ∷ zs)) (length ms)) (cond-false (eqb x.seat i) (x.message ∷ messages_from i xs) (messages_from i xs) f)
          ∙ place_next i x (xs ++ l ∷ zs) (length (messages_from i xs)) f
          ∙ ap suc rest
    ]

-- each of two seats is one of the two
seat_two : (i : Seat 2) → (seat : TwoSeat) × (i ≡ at seat)
seat_two (zero, p) = (Left, ap (λ (q : 0 < 2). let i : Seat 2 = (0, q) in i) (le_prop p (below Left)))
seat_two (suc zero, p) = (Right, ap (λ (q : 1 < 2). let i : Seat 2 = (1, q) in i) (le_prop p (below Right)))
seat_two (suc (suc i), p) = let no : ⊥ = omega arith in absurd no

back : (seat : TwoSeat) → seat_number seat ≡ seat_number (facing (facing seat))
back Left = refl
back Right = refl

faces : (s t : TwoSeat) → seat_number s ≢ seat_number t → t ≡ facing s
faces Left Left other = absurd (other refl)
faces Left Right other = refl
faces Right Left other = refl
faces Right Right other = absurd (other refl)

module _ (fits : ℕ → Bool) (window : ℕ) where
  turns_of_append : (m : Network) (ts us : List TwoTurn) → turns_of fits window m (ts ++ us) ≡ turns_of fits window m ts ++ turns_of fits window (with_turns fits window m (turns_of fits window m ts)) us
  unfolding with_turns
  turns_of_append m [] us = refl
  turns_of_append m (t ∷ ts) us = ap (λ (vs : List (Turn 2)). turn_of fits window m t ∷ vs) (turns_of_append (with_turn fits window m (turn_of fits window m t)) ts us)

  came_of : (m : ℕ) (ts : List TwoTurn) (seat : TwoSeat) → TwoCame fits window m ts seat → Came fits window 2 m (turns_of fits window (new_network 2) ts) (at seat) (at (facing seat))
  unfolding with_turns with_turn packet_from
  came_of m ts seat c =
      let before : List (Turn 2) = turns_of fits window (new_network 2) c.before in
      let n : TwoNetwork = two_network fits window c.before in
      let m0 : Network = network fits window before in
      let v : Same n m0 = same_network fits window c.before in
      let l : TwoLog = peer_at n seat in
      let acked : acked_by_all (m0.peers (seat_number seat)) ≡ l.acked = ap acked_by_all (v.peer seat) ∙ acked_is seat l in
      let sent : Turn 2 = send (at seat) l.acked 120 in
      let m1 : Network = with_turn fits window m0 sent in
      let between : List (Turn 2) = turns_of fits window m1 c.between in
      let m2 : Network = with_turns fits window m1 between in
      let k : ℕ = length (packets_to n (facing seat)) in
      let got : Turn 2 = turn_of fits window m2 (TwoTurn.deliver (facing seat) k) in
      let after : List (Turn 2) = turns_of fits window (with_turn fits window m2 got) c.after in
      let since = packets_turns fits window m1 between in
      let j : ℕ = seat_number (facing (facing seat)) in
      let x : Packet = packet_from (m0.peers (seat_number seat)) l.acked 120 in
      let from : x.seat ≡ j = ap (λ (log : Log). log.seat) (v.peer seat) ∙ seat_is seat l ∙ back seat in
      let where_it_is : place j m2.packets k ≡ length m0.packets =
      ap (λ (p : List Packet). place j p k) (since.1 ∙ append_assoc m0.packets (x ∷ []) since.0)
      ∙ ap (λ ms. place j (m0.packets ++ x ∷ since.0) (length ms)) (sym (v.packets (facing seat)))
      ∙ place_end j m0.packets x since.0 (eq-eqb x.seat j from) in
      record {
        before = before;
        between = between;
        after = after;
        made = subst (λ xs. m ≤ length xs) (sym (ap own (v.peer seat) ∙ own_is seat l)) c.made;
        so =
            ap (turns_of fits window (new_network 2)) c.so
            ∙ turns_of_append (new_network 2) c.before _
            ∙ ap (λ us. before ++ sent ∷ us) (turns_of_append m1 c.between _)
            ∙ ap₂ (λ a p. before ++ send (at seat) a 120 ∷ (between ++ deliver (at (facing seat)) p ∷ after)) (sym acked) where_it_is;
      }

-- at any window the promise for all seats gives that for two
both_from_all : (window : ℕ) → AllSureAt window → BothSureAt window
both_from_all window sure fits m ts narrow c seat =
    let us : List (Turn 2) = turns_of fits window (new_network 2) ts in
    let v = same_network fits window ts in
    let l : TwoLog = peer_at (two_network fits window ts) seat in
    let all : (i j : Seat 2) → i.0 ≢ j.0 → Came fits window 2 m us i j = λ i j other.
    let a = seat_two i in
    let b = seat_two j in
    let there : j ≡ at (facing a.0) = b.1 ∙ ap at (faces a.0 b.0 (λ e. other (ap (λ (s : Seat 2). s.0) a.1 ∙ e ∙ sym (ap (λ (s : Seat 2). s.0) b.1)))) in
    subst (λ s. Came fits window 2 m us s j) (sym a.1) (subst (Came fits window 2 m us (at a.0)) (sym there) (came_of fits window m ts a.0 (c a.0))) in
    omega (arith, sure fits 2 m us narrow (omega arith) all (at seat), ap confirmed (v.peer seat) ∙ confirmed_is seat l)

pub two_both_sure : BothSure
two_both_sure window small = both_from_all window (all_sure window small)
