-- Rows of turns: what happens at each seat. Assumes nothing.
use Rattle.std.proofs.Common.{◌≡◌, ℕ, zero, suc, ◌+◌, ◌<◌, ◌≤◌, Bool, ◌&&◌, not, eqb, ltb, List, [], ◌∷◌, ◌++◌, length, get_or, sym, refl, ap, ◌∙◌, subst, inl, inr, arith}
use Rattle.std.specs.Prelude.{◌≢◌}
use Rattle.std.specs.List.{AllByRecursion}
use Rattle.std.proofs.lemmas.List.{length-replicate, get_or-replicate}
use Rattle.std.proofs.lemmas.Bool.{cond_both, cond-true, cond-false, and_right, and_from, le-ltb, eq-eqb, ne_eqb, eqb-true, eqb-false, not_from_false, cases_eq, cases_lt}
use Rattle.network.specs.Promise.{Begins}
use Rattle.network.proofs.Beginnings.{begins_refl, begins_more, begins_trans}
use Rattle.seats.specs.Packets.{Packet, packet_bytes}
use Rattle.seats.specs.Network.{Network, Turn, tick, send, deliver, with_peer, packet_from, with_delivery, with_turn, with_turns, new_network}
use Rattle.seats.specs.Peers.{Log, Event, arrival, new_log, own, fewest, with_event, with_events}
use Rattle.seats.specs.Promise.{PeersRun, NotFar}
use Rattle.seats.proofs.Packets.{bytes_many}
use Rattle.seats.proofs.OnePeer.{Grows, run_grows, near_run, own_back}

-- ---- the peer at a seat where one has another log

pub by_peer : (n : Network) (i : ℕ) (log : Log) (j : ℕ) (P : Log → Type 0) → (j ≡ i → P log) → (j ≢ i → P (n.peers j)) → P ((with_peer n i log).peers j)
by_peer n i log j P new same =
    cond_both (eqb j i) log (n.peers j) P (λ e. new (eqb-true j i e)) (λ e. same (eqb-false j i e))

pub peer_there : (n : Network) (i : ℕ) (log : Log) → (with_peer n i log).peers i ≡ log
peer_there n i log = cond-true (eqb i i) log (n.peers i) (eq-eqb i i refl)

module _ (fits : ℕ → Bool) (window : ℕ) where
  -- ---- a packet that is delivered

  -- one that another wrote, by its bytes
  pub delivery_there : (seats : ℕ) (log : Log) (ls : List Packet) (k : ℕ) (d : Packet) → k < length ls → (get_or ls k d).seat ≢ log.seat → with_delivery fits window seats log ls k ≡ with_event fits window log (arrival (packet_bytes seats (get_or ls k d)))
  unfolding with_delivery
  delivery_there seats log [] k d h apart = let no : ⊥ = omega arith in absurd no
  delivery_there seats log (l ∷ ls) zero d h apart =
      cond-false _ log _ (and_right (not (ltb 2 seats)) (eqb l.seat log.seat) (ne_eqb l.seat log.seat apart))
  delivery_there seats log (l ∷ ls) (suc k) d h apart = delivery_there seats log ls k d (omega arith) apart

  -- by cases: the writer keeps its log
  pub by_delivery : (seats : ℕ) (log : Log) (ls : List Packet) (k : ℕ) (P : Log → Type 0) → length log.rows ≡ seats → P log → AllByRecursion (λ l. l.seat ≢ log.seat → P (with_event fits window log (arrival (packet_bytes seats l)))) ls → P (with_delivery fits window seats log ls k)
  unfolding with_delivery
  by_delivery seats log [] k P many p a = p
  by_delivery seats log (l ∷ ls) zero P many p a =
      let came : Log = with_event fits window log (arrival (packet_bytes seats l)) in
      cond_both (not (ltb 2 seats) && eqb l.seat log.seat) log came P (λ _. p)
      (λ f.
      elim (cases_eq l.seat log.seat) [
        | inl e ↦
            elim (cases_lt 2 seats) [
              | inl h ↦
                  let back : came ≡ log =
                  own_back fits window log (packet_bytes seats l) (omega (arith, many)) (ap (λ xs. get_or xs 1 0) (bytes_many seats l h) ∙ e) in
                  subst P (sym back) p
              | inr h ↦
                  let t = and_from (not (ltb 2 seats)) (eqb l.seat log.seat) (not_from_false (ltb 2 seats) (le-ltb 2 seats h)) (eq-eqb l.seat log.seat e) in
                  let no : ⊥ = cc in absurd no
            ]
        | inr e ↦ a.0 e
      ])
  by_delivery seats log (l ∷ ls) (suc k) P many p a = by_delivery seats log ls k P many p a.1

  -- ---- events at one peer

  -- a log to which events happened
  abbrev pub Ran : Log → Log → Type 0
  Ran log to = (es : List Event) × (to ≡ with_events fits window log es)

  run_append : (log : Log) (es fs : List Event) → with_events fits window log (es ++ fs) ≡ with_events fits window (with_events fits window log es) fs
  unfolding with_events
  run_append log [] fs = refl
  run_append log (e ∷ es) fs = run_append (with_event fits window log e) es fs

  ran_none : (log : Log) → Ran log log
  unfolding with_events
  ran_none log = ([], refl)

  ran_event : (log : Log) (e : Event) → Ran log (with_event fits window log e)
  unfolding with_events
  ran_event log e = (e ∷ [], refl)

  ran_trans : (log on to : Log) → Ran log on → Ran on to → Ran log to
  ran_trans log on to p q =
      (p.0 ++ q.0, q.1 ∙ ap (λ l. with_events fits window l q.0) p.1 ∙ sym (run_append log p.0 q.0))

  ran_delivery : (seats : ℕ) (log : Log) (ls : List Packet) (k : ℕ) → Ran log (with_delivery fits window seats log ls k)
  unfolding with_delivery
  ran_delivery seats log [] k = ran_none log
  ran_delivery seats log (l ∷ ls) zero =
      cond_both (not (ltb 2 seats) && eqb l.seat log.seat) log (with_event fits window log (arrival (packet_bytes seats l))) (Ran log) (λ _. ran_none log)
      (λ _. ran_event log (arrival (packet_bytes seats l)))
  ran_delivery seats log (l ∷ ls) (suc k) = ran_delivery seats log ls k

  pub ran_grows : (log to : Log) → Ran log to → Grows log to
  ran_grows log to p = subst (Grows log) (sym p.1) (run_grows fits window log p.0)

  pub delivery_grows : (seats : ℕ) (log : Log) (ls : List Packet) (k : ℕ) → Grows log (with_delivery fits window seats log ls k)
  delivery_grows seats log ls k = ran_grows log (with_delivery fits window seats log ls k) (ran_delivery seats log ls k)

  module _ {seats : ℕ} where
    pub turns_append : (n : Network) (ts us : List (Turn seats)) → with_turns fits window n (ts ++ us) ≡ with_turns fits window (with_turns fits window n ts) us
    unfolding with_turns
    turns_append n [] us = refl
    turns_append n (t ∷ ts) us = turns_append (with_turn fits window n t) ts us

    -- ---- a network that has gone on from another: events happened to each peer, and packets were written

    pub later_turn : (n : Network) (t : Turn seats) (j : ℕ) → Ran (n.peers j) ((with_turn fits window n t).peers j)
    unfolding with_turn
    later_turn n (tick i a) j =
        by_peer n i.0 (with_event fits window (n.peers i.0) (Event.tick a)) j (Ran (n.peers j)) (λ e. subst (λ k. Ran (n.peers k) (with_event fits window (n.peers i.0) (Event.tick a))) (sym e) (ran_event (n.peers i.0) (Event.tick a))) (λ _. ran_none (n.peers j))
    later_turn n (send i from k) j = ran_none (n.peers j)
    later_turn n (deliver i k) j =
        by_peer n i.0 (with_delivery fits window seats (n.peers i.0) n.packets k) j (Ran (n.peers j)) (λ e. subst (λ m. Ran (n.peers m) (with_delivery fits window seats (n.peers i.0) n.packets k)) (sym e) (ran_delivery seats (n.peers i.0) n.packets k)) (λ _. ran_none (n.peers j))

    packets_turn : (n : Network) (t : Turn seats) → Begins n.packets (with_turn fits window n t).packets
    unfolding with_turn
    packets_turn n (tick i a) = begins_refl n.packets
    packets_turn n (send i from k) = begins_more n.packets (packet_from (n.peers i.0) from k ∷ [])
    packets_turn n (deliver i k) = begins_refl n.packets

    pub later_turns : (n : Network) (ts : List (Turn seats)) (j : ℕ) → Ran (n.peers j) ((with_turns fits window n ts).peers j)
    unfolding with_turns
    later_turns n [] j = ran_none (n.peers j)
    later_turns n (t ∷ ts) j = ran_trans _ _ _ (later_turn n t j) (later_turns (with_turn fits window n t) ts j)

    pub packets_turns : (n : Network) (ts : List (Turn seats)) → Begins n.packets (with_turns fits window n ts).packets
    unfolding with_turns
    packets_turns n [] = begins_refl n.packets
    packets_turns n (t ∷ ts) = begins_trans _ _ _ (packets_turn n t) (packets_turns (with_turn fits window n t) ts)

    pub grown : (n : Network) (ts : List (Turn seats)) (j : ℕ) → Grows (n.peers j) ((with_turns fits window n ts).peers j)
    grown n ts j = ran_grows (n.peers j) ((with_turns fits window n ts).peers j) (later_turns n ts j)

-- ---- from the beginning

pub peers_run : PeersRun
peers_run fits window seats ts i = later_turns fits window (new_network seats) ts i.0

pub not_far : NotFar
not_far fits window seats ts i =
    let r = peers_run fits window seats ts i in
    let none : own (new_log seats i.0) ≡ [] = get_or-replicate seats i.0 [] [] i.1 in
    subst (λ log. length (own log) ≤ fewest log + window) (sym r.1)
    (near_run fits window (new_log seats i.0) r.0 (omega (arith, i.1, length-replicate {A = List ℕ} seats [])) (omega (arith, ap length none)))
