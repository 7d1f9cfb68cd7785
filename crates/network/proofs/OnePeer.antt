-- One peer, whatever bytes come to it. Assumes nothing.
use Rattle.std.proofs.Common.{◌≡◌, ℕ, ◌+◌, ◌-◌, ◌<◌, ◌≤◌, min, Bool, true, ◌&&◌, ltb, List, [], ◌∷◌, ◌++◌, length, take, drop, Ok, Err, Result, sym, refl, ap₂, arith}
use Rattle.std.proofs.lemmas.List.{length_push}
use Rattle.std.proofs.lemmas.Bool.{cond_both, and_parts, ltb-true}
use Rattle.std.proofs.lemmas.Bool.Decides.{nat_tests}
use Rattle.game.specs.Plain.{Game, plays}
use Rattle.game.specs.declared.seat.Seat.{Seat}
use Rattle.game.specs.declared.seat.Seat.TheVariants.{Left, Right}
use Rattle.packet.specs.declared.fault.Fault.{Fault}
use Rattle.packet.specs.Wire.{Message, start_checked, rest_checked, reading}
use Rattle.peer.specs.Peers.{Log, Event, tick, arrival, new_log, goes_on, joined, heard, event, run, shows, predicted, confirmed_at, sends}
use Rattle.peer.proofs.Shows.{predicted_came, predicted_same}
use Rattle.network.specs.Network.{written}
use Rattle.network.specs.Promise.{Begins, StaysSure, Guessed, SendsWritten}
use Rattle.network.proofs.Beginnings.{begins_refl, begins_more, begins_trans, begins_length, begins_take}

-- a log that has gone on from another
pub record Grows (log to : Log) : Type 0 where
  pub own : Begins log.own to.own
  pub other : Begins log.other to.other

grows_refl : (log : Log) → Grows log log
grows_refl log = record { own = begins_refl log.own; other = begins_refl log.other }

pub joined_grows : (xs : List ℕ) (m : Message) → Begins xs (joined xs m)
unfolding joined
joined_grows xs m =
    cond_both (ltb (length xs) m.first) xs (xs ++ drop (length xs - m.first) m.inputs) (Begins xs) (λ _. begins_refl xs)
    (λ _. begins_more xs (drop (length xs - m.first) m.inputs))

-- a packet that is taken acknowledges no more than was made
read_known : (own : ℕ) (xs : List ℕ) (m : Message) → reading own xs ≡ Ok m → m.ack ≤ own
unfolding reading start_checked rest_checked
read_known own xs m e = grind (arith, nat_tests)

module _ (fits : ℕ → Bool) (window : ℕ) where
  -- ---- one event

  -- what a tick leaves, by cases
  pub by_tick : (log : Log) (a : ℕ) (P : Log → Type 0) → P log → (fits a ≡ true → length log.own < 1000000 → length log.own < length log.other + window → P (record { own = log.own ++ a ∷ []; other = log.other; acked = log.acked })) → P (event fits window log (tick a))
  unfolding event
  by_tick log a P same more =
      cond_both (fits a && goes_on window log) (record { own = log.own ++ a ∷ []; other = log.other; acked = log.acked }) log P
      (λ e.
      let p = and_parts (fits a) (goes_on window log) e in
      let q = and_parts (ltb (length log.own) 1000000) (ltb (length log.own) (length log.other + window)) p.1 in
      more p.0 (ltb-true _ _ q.0) (ltb-true _ _ q.1))
      (λ _. same)

  -- and bytes that came
  pub by_arrival : (log : Log) (xs : List ℕ) (P : Log → Type 0) → P log → ((m : Message) → reading (length log.own) xs ≡ Ok m → P (heard log (Ok m))) → P (event fits window log (arrival xs))
  unfolding event
  by_arrival log xs P same more = by (reading (length log.own) xs) refl
    where
      by : (r : Result Message Fault) → reading (length log.own) xs ≡ r → P (heard log r)
      by (Ok m) e = more m e
      by (Err f) e = same

  pub event_grows : (log : Log) (e : Event) → Grows log (event fits window log e)
  event_grows log (tick a) =
      by_tick log a (Grows log) (grows_refl log) (λ _ _ _. record { own = begins_more log.own (a ∷ []); other = begins_refl log.other })
  event_grows log (arrival xs) =
      by_arrival log xs (Grows log) (grows_refl log) (λ m _. record { own = begins_refl log.own; other = joined_grows log.other m })

  arrival_own : (log : Log) (xs : List ℕ) → (event fits window log (arrival xs)).own ≡ log.own
  arrival_own log xs = by_arrival log xs (λ to. to.own ≡ log.own) refl (λ _ _. refl)

  near_event : (log : Log) (e : Event) → length log.own ≤ length log.other + window → length (event fits window log e).own ≤ length (event fits window log e).other + window
  near_event log (tick a) p =
      by_tick log a (λ to. length to.own ≤ length to.other + window) p (λ _ _ h. omega (arith, length_push log.own a))
  near_event log (arrival xs) p =
      by_arrival log xs (λ to. length to.own ≤ length to.other + window) p
      (λ m _. omega (arith, begins_length log.other (joined log.other m) (joined_grows log.other m)))

  acked_event : (log : Log) (e : Event) → log.acked ≤ length log.own → (event fits window log e).acked ≤ length (event fits window log e).own
  acked_event log (tick a) p = by_tick log a (λ to. to.acked ≤ length to.own) p (λ _ _ _. omega (arith, length_push log.own a))
  acked_event log (arrival xs) p =
      by_arrival log xs (λ to. to.acked ≤ length to.own) p (λ m e. omega (arith, read_known (length log.own) xs m e))

  -- ---- a row of events

  pub run_grows : (log : Log) (es : List Event) → Grows log (run fits window log es)
  unfolding run
  run_grows log [] = grows_refl log
  run_grows log (e ∷ es) =
      let p : Grows log (event fits window log e) = event_grows log e in
      let q : Grows (event fits window log e) (run fits window (event fits window log e) es) = run_grows (event fits window log e) es in
      record { own = begins_trans _ _ _ p.own q.own; other = begins_trans _ _ _ p.other q.other }

  pub near_run : (log : Log) (es : List Event) → length log.own ≤ length log.other + window → length (run fits window log es).own ≤ length (run fits window log es).other + window
  unfolding run
  near_run log [] p = p
  near_run log (e ∷ es) p = near_run (event fits window log e) es (near_event log e p)

  pub acked_run : (log : Log) (es : List Event) → log.acked ≤ length log.own → (run fits window log es).acked ≤ length (run fits window log es).own
  unfolding run
  acked_run log [] p = p
  acked_run log (e ∷ es) p = acked_run (event fits window log e) es (acked_event log e p)

-- ---- what is confirmed, shown and sent

confirmed_same : {S : Type 0} (g : Game S) (seat : Seat) (log to : Log) (k : ℕ) → take k log.own ≡ take k to.own → take k log.other ≡ take k to.other → confirmed_at g seat log k ≡ confirmed_at g seat to k
unfolding confirmed_at
confirmed_same g Left log to k p q = ap₂ (plays g g.start) p q
confirmed_same g Right log to k p q = ap₂ (plays g g.start) q p

pub stays_sure : (S : Type 0) → StaysSure S
stays_sure S g seat fits window log es =
    let to : Log = run fits window log es in
    let p : Grows log to = run_grows fits window log es in
    let own : length log.own ≤ length to.own = begins_length log.own to.own p.own in
    let other : length log.other ≤ length to.other = begins_length log.other to.other p.other in (
      omega arith,
      p.own,
      p.other,
      λ k h.
          confirmed_same g seat log to k (sym (begins_take k log.own to.own p.own (omega arith)))
          (sym (begins_take k log.other to.other p.other (omega arith))),
    )

-- what is shown depends on the own inputs and the prediction alone
shows_same : {S : Type 0} (g : Game S) (seat : Seat) (log to : Log) → to.own ≡ log.own → predicted to ≡ predicted log → shows g seat to ≡ shows g seat log
unfolding shows
shows_same g Left log to p q = ap₂ (plays g g.start) p q
shows_same g Right log to p q = ap₂ (plays g g.start) q p

pub guessed : (S : Type 0) → Guessed S
guessed S g seat fits window log xs =
    let to : Log = event fits window log (arrival xs) in
    let own : to.own ≡ log.own = arrival_own fits window log xs in
    let more : length log.other ≤ length to.other = begins_length log.other to.other (event_grows fits window log (arrival xs)).other in (
      λ right. let same : predicted to ≡ predicted log = predicted_same log to own more right in (same, shows_same g seat log to own same),
      predicted_came log to own,
    )

pub sends_is : (log : Log) → log.acked ≤ length log.own → sends log ≡ written log log.acked 120
unfolding written
sends_is log h = let e : min log.acked (length log.own) ≡ log.acked = omega arith in rw e

pub sends_written : SendsWritten
sends_written fits window es = sends_is (run fits window new_log es) (acked_run fits window new_log es (omega arith))
