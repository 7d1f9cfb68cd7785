-- Rows of turns: what happens at each seat. Assumes nothing.
use Rattle.std.proofs.Common.{◌≡◌, ℕ, zero, suc, ◌+◌, ◌<◌, ◌≤◌, Bool, List, [], ◌∷◌, ◌++◌, length, get_or, sym, refl, ap, ◌∙◌, subst, arith}
use Rattle.std.specs.List.{AllByRecursion}
use Rattle.game.specs.Seats.{facing}
use Rattle.game.specs.declared.seat.Seat.{Seat}
use Rattle.game.specs.declared.seat.Seat.TheVariants.{Left, Right}
use Rattle.packet.specs.Wire.{Message, message_bytes}
use Rattle.peer.specs.Peers.{Log, Event, arrival, new_log, event, run}
use Rattle.network.specs.Network.{Network, Turn, tick, send, deliver, peer_at, packets_to, with_peer, with_packet, written, handed, turn, turns, new_network}
use Rattle.network.specs.Promise.{Begins, PeersRun, NotFar}
use Rattle.network.proofs.Beginnings.{begins_refl, begins_more, begins_trans}
use Rattle.network.proofs.OnePeer.{Grows, run_grows, near_run}

module _ (fits : ℕ → Bool) (window : ℕ) where
  -- ---- one row after another

  pub turns_append : (n : Network) (ts us : List Turn) → turns fits window n (ts ++ us) ≡ turns fits window (turns fits window n ts) us
  unfolding turns
  turns_append n [] us = refl
  turns_append n (t ∷ ts) us = turns_append (turn fits window n t) ts us

  pub turns_push : (n : Network) (ts : List Turn) (t : Turn) → turns fits window n (ts ++ t ∷ []) ≡ turn fits window (turns fits window n ts) t
  unfolding turns
  turns_push n ts t = turns_append n ts (t ∷ [])

  -- ---- a packet that is handed over

  pub handed_there : (log : Log) (ms : List Message) (k : ℕ) (d : Message) → k < length ms → handed fits window log ms k ≡ event fits window log (arrival (message_bytes (get_or ms k d)))
  unfolding handed
  handed_there log [] k d h = let no : ⊥ = omega arith in absurd no
  handed_there log (m ∷ ms) zero d h = refl
  handed_there log (m ∷ ms) (suc k) d h = handed_there log ms k d (omega arith)

  pub handed_past : (log : Log) (ms : List Message) (k : ℕ) → length ms ≤ k → handed fits window log ms k ≡ log
  unfolding handed
  handed_past log [] k h = refl
  handed_past log (m ∷ ms) zero h = let no : ⊥ = omega arith in absurd no
  handed_past log (m ∷ ms) (suc k) h = handed_past log ms k (omega arith)

  -- by cases
  pub by_handed : (log : Log) (ms : List Message) (k : ℕ) (P : Log → Type 0) → P log → AllByRecursion (λ m. P (event fits window log (arrival (message_bytes m)))) ms → P (handed fits window log ms k)
  unfolding handed
  by_handed log [] k P p a = p
  by_handed log (m ∷ ms) zero P p a = a.0
  by_handed log (m ∷ ms) (suc k) P p a = by_handed log ms k P p a.1

  -- ---- events at one peer

  -- a log to which events happened
  abbrev pub Ran : Log → Log → Type 0
  Ran log to = (es : List Event) × (to ≡ run fits window log es)

  -- rows of events one behind the other
  pub run_append : (log : Log) (es fs : List Event) → run fits window log (es ++ fs) ≡ run fits window (run fits window log es) fs
  unfolding run
  run_append log [] fs = refl
  run_append log (e ∷ es) fs = run_append (event fits window log e) es fs

  ran_none : (log : Log) → Ran log log
  unfolding run
  ran_none log = ([], refl)

  ran_event : (log : Log) (e : Event) → Ran log (event fits window log e)
  unfolding run
  ran_event log e = (e ∷ [], refl)

  ran_trans : (log to end : Log) → Ran log to → Ran to end → Ran log end
  ran_trans log to end p q = (p.0 ++ q.0, q.1 ∙ ap (λ l. run fits window l q.0) p.1 ∙ sym (run_append log p.0 q.0))

  pub ran_handed : (log : Log) (ms : List Message) (k : ℕ) → Ran log (handed fits window log ms k)
  unfolding handed
  ran_handed log [] k = ran_none log
  ran_handed log (m ∷ ms) zero = ran_event log (arrival (message_bytes m))
  ran_handed log (m ∷ ms) (suc k) = ran_handed log ms k

  pub ran_grows : (log to : Log) → Ran log to → Grows log to
  ran_grows log to p = subst (Grows log) (sym p.1) (run_grows fits window log p.0)

  -- ---- a network that has gone on from another

  -- at a seat: events happened to the peer, and packets were written to it
  abbrev pub Later : Network → Network → Seat → Type 0
  Later n to seat = Ran (peer_at n seat) (peer_at to seat) × Begins (packets_to n seat) (packets_to to seat)

  later_none : (n : Network) (seat : Seat) → Later n n seat
  later_none n seat = (ran_none (peer_at n seat), begins_refl (packets_to n seat))

  later_peer : (n : Network) (at : Seat) (log : Log) → Ran (peer_at n at) log → (seat : Seat) → Later n (with_peer n at log) seat
  later_peer n Left log p Left = (p, begins_refl n.to_left)
  later_peer n Left log p Right = later_none n Right
  later_peer n Right log p Left = later_none n Left
  later_peer n Right log p Right = (p, begins_refl n.to_right)

  later_packet : (n : Network) (at : Seat) (m : Message) (seat : Seat) → Later n (with_packet n at m) seat
  later_packet n Left m Left = (ran_none n.left, begins_more n.to_left (m ∷ []))
  later_packet n Left m Right = later_none n Right
  later_packet n Right m Left = later_none n Left
  later_packet n Right m Right = (ran_none n.right, begins_more n.to_right (m ∷ []))

  pub later_turn : (n : Network) (t : Turn) (seat : Seat) → Later n (turn fits window n t) seat
  unfolding turn
  later_turn n (tick at a) = later_peer n at _ (ran_event (peer_at n at) (Event.tick a))
  later_turn n (send at from k) = later_packet n (facing at) (written (peer_at n at) from k)
  later_turn n (deliver at k) = later_peer n at _ (ran_handed (peer_at n at) (packets_to n at) k)

  pub later_turns : (n : Network) (ts : List Turn) (seat : Seat) → Later n (turns fits window n ts) seat
  unfolding turns
  later_turns n [] seat = later_none n seat
  later_turns n (t ∷ ts) seat =
      let p = later_turn n t seat in
      let q = later_turns (turn fits window n t) ts seat in (ran_trans _ _ _ p.0 q.0, begins_trans _ _ _ p.1 q.1)

  pub grown : (n : Network) (ts : List Turn) (seat : Seat) → Grows (peer_at n seat) (peer_at (turns fits window n ts) seat)
  grown n ts seat = ran_grows (peer_at n seat) (peer_at (turns fits window n ts) seat) (later_turns n ts seat).0

-- ---- from the beginning

pub peers_run : PeersRun
peers_run fits window ts Left = (later_turns fits window new_network ts Left).0
peers_run fits window ts Right = (later_turns fits window new_network ts Right).0

pub not_far : NotFar
not_far fits window ts seat =
    let r = peers_run fits window ts seat in
    subst (λ log. length log.own ≤ length log.other + window) (sym r.1) (near_run fits window new_log r.0 (omega arith))
