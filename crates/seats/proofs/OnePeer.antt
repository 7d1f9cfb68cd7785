-- One peer, whatever bytes come to it. Assumes nothing.
use Rattle.std.proofs.Common.{◌≡◌, ℕ, ◌+◌, ◌-◌, ◌<◌, ◌≤◌, min, max, Bool, true, ◌&&◌, eqb, ltb, List, [], ◌∷◌, ◌++◌, length, get_or, replicate, Ok, Err, Result, sym, refl, ap, ◌∙◌, subst, inl, inr, arith, length-set}
use Rattle.std.specs.Prelude.{◌≢◌}
use Rattle.std.proofs.lemmas.List.{length-map, length-replicate, ext_get_or, get_or_past, get_or-map, get_or-replicate, get_or-set_same, get_or-set_other, length_push}
use Rattle.std.proofs.lemmas.Bool.{cond_both, cond-false, and_parts, ltb-true, eqb-false, ne_eqb, cases_lt}
use Rattle.network.specs.Promise.{Begins}
use Rattle.network.proofs.Beginnings.{begins_refl, begins_more, begins_trans, begins_length, begins_take}
use Rattle.network.proofs.OnePeer.{joined_grows}
use Rattle.packet.specs.Wire.{Message}
use Rattle.peer.specs.Peers.{joined}
use Rattle.seats.specs.Packets.{Packet, ReadError, packet_in}
use Rattle.seats.specs.Network.{packet_from}
use Rattle.seats.specs.Peers.{Log, Event, tick, arrival, new_log, row, own, counts, frames, others, least, fewest, acked_by_all, may_play, with_row, with_message, with_packet, with_event, with_events, predicted_input, predicted_inputs, confirmed}
use Rattle.seats.specs.Plain.{plays}
use Rattle.seats.specs.Promise.{StaysSure, Guessed, OwnBack, SendsWritten}
use Rattle.seats.proofs.Least.{least_le, least_grows, others_grows, others_met, at_set}
use Rattle.seats.proofs.Packets.{packet_known, many_read}
use Rattle.seats.proofs.Plays.{plays_same, rows_same}

-- how many inputs a log has of a seat
pub count_at : (log : Log) (j : ℕ) → j < length log.rows → get_or (counts log) j 0 ≡ length (row log j)
count_at log j h = get_or-map length log.rows j [] 0 h

pub length-counts : (log : Log) → length (counts log) ≡ length log.rows
length-counts log = length-map log.rows length

-- a log that has gone on from another
pub record Grows (log to : Log) : Type 0 where
  pub same_seat : to.seat ≡ log.seat
  pub many : length to.rows ≡ length log.rows
  pub rows : (j : ℕ) → Begins (row log j) (row to j)

pub grows_refl : (log : Log) → Grows log log
grows_refl log = record { same_seat = refl; many = refl; rows = λ j. begins_refl (row log j) }

pub grows_trans : (log on to : Log) → Grows log on → Grows on to → Grows log to
grows_trans log on to p q =
    record { same_seat = q.same_seat ∙ p.same_seat; many = q.many ∙ p.many; rows = λ j. begins_trans _ _ _ (p.rows j) (q.rows j) }

grows_row : (log : Log) (seat : ℕ) (xs : List ℕ) → Begins (row log seat) xs → Grows log (with_row log seat xs)
grows_row log seat xs p =
    record {
      same_seat = refl;
      many = length-set log.rows seat xs;
      rows = λ j. at_set log.rows seat xs [] j (Begins (row log j)) (begins_refl (row log j)) (λ e. subst (λ i. Begins (row log i) xs) (sym e) p);
    }

grows_message : (log : Log) (seat : ℕ) (m : Message) → Grows log (with_message log seat m)
grows_message log seat m =
    let g = grows_row log seat (joined (row log seat) m) (joined_grows (row log seat) m) in
    record { same_seat = refl; many = g.many; rows = g.rows }

pub more_counts : (log to : Log) → Grows log to → (j : ℕ) → length (row log j) ≤ length (row to j)
more_counts log to g j = begins_length (row log j) (row to j) (g.rows j)

-- each count grows, so the fewest of another seat, and of all
more_at : (log to : Log) → Grows log to → (j : ℕ) → j < length (counts log) → get_or (counts log) j 0 ≤ get_or (counts to) j 0
more_at log to g j h = omega (arith, length-counts log, g.many, count_at log j (omega (arith, length-counts log)), count_at to j (omega (arith, length-counts log, g.many)), more_counts log to g j)

pub fewest_grows : (log to : Log) → log.seat < length log.rows → Grows log to → fewest log ≤ fewest to
fewest_grows log to h g =
    subst (λ i. fewest log ≤ least (others i (counts to))) (sym g.same_seat)
    (others_grows log.seat (counts log) (counts to) (omega (arith, length-counts log)) (length-counts log ∙ sym g.many ∙ sym (length-counts to)) (λ j l _. more_at log to g j l))

-- so as many frames are played as before, or more
pub frames_grow : (log to : Log) → Grows log to → frames log ≤ frames to
frames_grow log to g = subst (λ i. frames log ≤ length (row to i)) (sym g.same_seat) (more_counts log to g log.seat)

confirmed_grows : (log to : Log) → Grows log to → confirmed log ≤ confirmed to
confirmed_grows log to g =
    omega (arith, frames_grow log to g, least_grows (counts log) (counts to) (length-counts log ∙ sym g.many ∙ sym (length-counts to)) (more_at log to g))

-- the own row with an input more
pub own_row : (log : Log) (xs : List ℕ) → log.seat < length log.rows → own (with_row log log.seat xs) ≡ xs
own_row log xs h = get_or-set_same log.rows log.seat xs [] h

module _ (fits : ℕ → Bool) (window : ℕ) where
  -- ---- one event

  -- what a tick leaves, by cases
  pub by_tick : (log : Log) (a : ℕ) (P : Log → Type 0) → P log → (fits a ≡ true → length (own log) < 1000000 → length (own log) < fewest log + window → P (with_row log log.seat (own log ++ a ∷ []))) → P (with_event fits window log (tick a))
  unfolding with_event
  by_tick log a P same more =
      cond_both (fits a && may_play window log) (with_row log log.seat (own log ++ a ∷ [])) log P
      (λ e.
      let p = and_parts (fits a) (may_play window log) e in
      let q = and_parts (ltb (length (own log)) 1000000) (ltb (length (own log)) (fewest log + window)) p.1 in
      more p.0 (ltb-true _ _ q.0) (ltb-true _ _ q.1))
      (λ _. same)

  -- and bytes that came
  pub by_arrival : (log : Log) (xs : List ℕ) (P : Log → Type 0) → P log → ((l : Packet) → packet_in (length log.rows) log.seat (length (own log)) xs ≡ Ok l → l.seat ≢ log.seat → P (with_message log l.seat l.message)) → P (with_event fits window log (arrival xs))
  unfolding with_event with_packet
  by_arrival log xs P same more = by (packet_in (length log.rows) log.seat (length (own log)) xs) refl
    where
      by : (r : Result Packet ReadError) → packet_in (length log.rows) log.seat (length (own log)) xs ≡ r → P (with_packet log r)
      by (Ok l) e =
          cond_both (eqb l.seat log.seat) log (with_message log l.seat l.message) P (λ _. same) (λ f. more l e (eqb-false l.seat log.seat f))
      by (Err f) e = same

  pub event_message : (log : Log) (xs : List ℕ) (l : Packet) → packet_in (length log.rows) log.seat (length (own log)) xs ≡ Ok l → l.seat ≢ log.seat → with_event fits window log (arrival xs) ≡ with_message log l.seat l.message
  unfolding with_event with_packet
  event_message log xs l e apart = ap (with_packet log) e ∙ cond-false (eqb l.seat log.seat) _ _ (ne_eqb l.seat log.seat apart)

  pub event_grows : (log : Log) (e : Event) → Grows log (with_event fits window log e)
  event_grows log (tick a) =
      by_tick log a (Grows log) (grows_refl log) (λ _ _ _. grows_row log log.seat (own log ++ a ∷ []) (begins_more (own log) (a ∷ [])))
  event_grows log (arrival xs) =
      by_arrival log xs (Grows log) (grows_refl log) (λ l _ _. grows_message log l.seat l.message)

  pub row_message : (log : Log) (seat j : ℕ) (m : Message) → j ≢ seat → row (with_message log seat m) j ≡ row log j
  row_message log seat j m apart = get_or-set_other log.rows seat j (joined (row log seat) m) [] apart

  pub arrival_own : (log : Log) (xs : List ℕ) → own (with_event fits window log (arrival xs)) ≡ own log
  arrival_own log xs = by_arrival log xs (λ to. own to ≡ own log) refl (λ l _ apart. row_message log l.seat log.seat l.message (λ e. apart (sym e)))

  -- it is not too far ahead, and no seat acknowledged more than it made
  pub near_event : (log : Log) (e : Event) → log.seat < length log.rows → length (own log) ≤ fewest log + window → length (own (with_event fits window log e)) ≤ fewest (with_event fits window log e) + window
  near_event log (tick a) h p =
      by_tick log a (λ to. length (own to) ≤ fewest to + window) p
      (λ _ _ near.
      let xs : List ℕ = own log ++ a ∷ [] in
      omega (arith, ap length (own_row log xs h), length_push (own log) a, fewest_grows log (with_row log log.seat xs) h (grows_row log log.seat xs (begins_more (own log) (a ∷ [])))))
  near_event log (arrival xs) h p =
      omega (arith, ap length (arrival_own log xs), fewest_grows log (with_event fits window log (arrival xs)) h (event_grows log (arrival xs)))

  abbrev pub Known : Log → Type 0
  Known log = (j : ℕ) → get_or log.acked j 0 ≤ length (own log)

  known_event : (log : Log) (e : Event) → Known log → Known (with_event fits window log e)
  known_event log (tick a) p =
      by_tick log a Known p (λ _ _ _ j. omega (arith, p j, more_counts log (with_row log log.seat (own log ++ a ∷ [])) (grows_row log log.seat (own log ++ a ∷ []) (begins_more (own log) (a ∷ []))) log.seat))
  known_event log (arrival xs) p =
      by_arrival log xs Known p
      (λ l e apart j.
      let grown = more_counts log (with_message log l.seat l.message) (grows_message log l.seat l.message) log.seat in
      at_set log.acked l.seat (max (get_or log.acked l.seat 0) l.message.ack) 0 j (λ n. n ≤ length (own (with_message log l.seat l.message))) (omega (arith, p j, grown))
      (λ _. omega (arith, p l.seat, grown, packet_known (length log.rows) log.seat (length (own log)) xs l e apart)))

  -- as many acknowledgements as before
  pub acks_event : (log : Log) (e : Event) → length (with_event fits window log e).acked ≡ length log.acked
  acks_event log (tick a) = by_tick log a (λ to. length to.acked ≡ length log.acked) refl (λ _ _ _. refl)
  acks_event log (arrival xs) = by_arrival log xs (λ to. length to.acked ≡ length log.acked) refl (λ l _ _. length-set log.acked l.seat _)

  -- ---- a row of events

  -- what every event keeps
  pub by_run : (P : Log → Type 0) → ((log : Log) (e : Event) → P log → P (with_event fits window log e)) → (log : Log) (es : List Event) → P log → P (with_events fits window log es)
  unfolding with_events
  by_run P step log [] p = p
  by_run P step log (e ∷ es) p = by_run P step (with_event fits window log e) es (step log e p)

  pub run_grows : (log : Log) (es : List Event) → Grows log (with_events fits window log es)
  run_grows log es =
      by_run (Grows log) (λ on e g. grows_trans log on (with_event fits window on e) g (event_grows on e)) log es (grows_refl log)

  pub near_run : (log : Log) (es : List Event) → log.seat < length log.rows → length (own log) ≤ fewest log + window → length (own (with_events fits window log es)) ≤ fewest (with_events fits window log es) + window
  near_run log es h p =
      (by_run (λ on. (on.seat < length on.rows) × (length (own on) ≤ fewest on + window))
      (λ on e q. let g = event_grows on e in (omega (arith, q.0, g.same_seat, g.many), near_event on e q.0 q.1)) log es (h, p)).1

  known_run : (log : Log) (es : List Event) → Known log → Known (with_events fits window log es)
  known_run = by_run Known known_event

  acks_run : (log : Log) (es : List Event) → length (with_events fits window log es).acked ≡ length log.acked
  acks_run log es = by_run (λ on. length on.acked ≡ length log.acked) (λ on e p. acks_event on e ∙ p) log es refl

-- ---- what is confirmed, shown and sent

pub confirmed_le : (log : Log) (j : ℕ) → j < length log.rows → confirmed log ≤ length (row log j)
confirmed_le log j h = omega (arith, length-counts log, count_at log j h, least_le (counts log) j (omega (arith, length-counts log)))

pub stays_sure : (S : Type 0) → StaysSure S
stays_sure S g fits window log es =
    let to : Log = with_events fits window log es in
    let p : Grows log to = run_grows fits window log es in (
      confirmed_grows log to p,
      p.rows,
      λ k h.
          rows_same g g.start log.rows to.rows k (sym p.many)
          (λ j l. sym (begins_take k (row log j) (row to j) (p.rows j) (omega (arith, confirmed_le log j l)))),
    )

-- inputs that come as they were predicted leave the predictions as they were
pub predicted_came : (xs : List ℕ) (k : ℕ) → k < length xs → predicted_input xs k ≡ get_or xs k 0
predicted_came xs k h = let e : min k (length xs - 1) ≡ k = omega arith in ap (λ n. get_or xs n 0) e

predicted_same : (own : ℕ) (xs ys : List ℕ) → length xs ≤ length ys → ((k : ℕ) → k < own → k < length ys → get_or ys k 0 ≡ predicted_input xs k) → (k : ℕ) → k < own → predicted_input ys k ≡ predicted_input xs k
predicted_same own xs ys more right k h =
    elim (cases_lt k (length ys)) [
      | inl l ↦ predicted_came ys k l ∙ right k h l
      | inr ge ↦
          elim (cases_lt 0 (length ys)) [
            | inl some ↦
                let last : ℕ = length ys - 1 in
                let e : min k (length ys - 1) ≡ last = omega arith in
                let f : min last (length xs - 1) ≡ min k (length xs - 1) = omega arith in
                ap (λ n. get_or ys n 0) e ∙ right last (omega arith) (omega arith) ∙ ap (λ n. get_or xs n 0) f
            | inr none ↦ get_or_past ys (min k (length ys - 1)) 0 (omega arith) ∙ sym (get_or_past xs (min k (length xs - 1)) 0 (omega arith))
          ]
    ]

predicted_inputs_at : (log : Log) (j k : ℕ) → j < length log.rows → get_or (predicted_inputs log.rows k) j 0 ≡ predicted_input (row log j) k
predicted_inputs_at log j k h = get_or-map (λ xs. predicted_input xs k) log.rows j [] 0 h

pub guessed : (S : Type 0) → Guessed S
guessed S g fits window log xs =
    let to : Log = with_event fits window log (arrival xs) in
    let n : ℕ = length (own log) in
    let mine : length (own to) ≡ n = ap length (arrival_own fits window log xs) in
    let grown : Grows log to = event_grows fits window log (arrival xs) in (
      λ right.
          let same : (k : ℕ) → k < n → predicted_inputs to.rows k ≡ predicted_inputs log.rows k = λ k h.
          let many = length-map to.rows (λ ys. predicted_input ys k) in
          ext_get_or 0 (predicted_inputs to.rows k) (predicted_inputs log.rows k) (many ∙ grown.many ∙ sym (length-map log.rows (λ ys. predicted_input ys k)))
          (λ j l.
          let there : j < length log.rows = omega (arith, many, grown.many) in
          predicted_inputs_at to j k (omega (arith, many))
          ∙ predicted_same n (row log j) (row to j) (more_counts log to grown j) (λ i p q. right j i there p q) k h
          ∙ sym (predicted_inputs_at log j k there)) in
          (same, ap (plays g g.start (predicted_inputs to.rows)) mine ∙ plays_same g g.start (predicted_inputs to.rows) (predicted_inputs log.rows) n same),
      λ same j k there p q.
          sym (predicted_came (row to j) k q)
          ∙ sym (predicted_inputs_at to j k (omega (arith, grown.many)))
          ∙ ap (λ zs. get_or zs j 0) (same k p)
          ∙ predicted_inputs_at log j k there,
    )

pub own_back : OwnBack
own_back fits window log xs many e =
    by_arrival fits window log xs (λ to. to ≡ log) refl
    (λ p read apart. absurd (apart ((many_read (length log.rows) log.seat (length (own log)) xs p many read).1.same ∙ e)))

pub none_known : (seats j : ℕ) → ◌≡◌ {A = ℕ} (get_or (replicate seats 0) j 0) 0
none_known seats j =
    elim (cases_lt j seats) [
      | inl h ↦ get_or-replicate {A = ℕ} seats j 0 0 h
      | inr h ↦ get_or_past {X = ℕ} (replicate seats 0) j 0 (omega (arith, length-replicate {A = ℕ} seats 0))
    ]

pub sends_written : SendsWritten
unfolding packet_from
sends_written fits window seats seat es two =
    let new : Log = new_log seats seat.0 in
    let log : Log = with_events fits window new es in
    let known : (j : ℕ) → get_or log.acked j 0 ≤ length (own log) = known_run fits window new es (λ j. omega (arith, none_known seats j)) in
    let acks : length log.acked ≡ seats = acks_run fits window new es ∙ length-replicate seats 0 in
    let here : log.seat < length log.acked = omega (arith, (run_grows fits window new es).same_seat, seat.1, acks) in
    let met = others_met log.seat log.acked here (omega (arith, acks)) in
    let e : min (acked_by_all log) (length (own log)) ≡ acked_by_all log = omega (arith, met.3, known met.0) in
    rw e
