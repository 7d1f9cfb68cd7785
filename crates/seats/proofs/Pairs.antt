-- One peer alone, and what it has of another: what every turn keeps. Assumes nothing.
use Rattle.std.proofs.Common.{◌≡◌, ℕ, ◌+◌, ◌-◌, ◌<◌, ◌≤◌, min, max, Bool, true, eqb, ltb, leb, List, [], ◌∷◌, ◌++◌, length, get_or, drop, Ok, sym, refl, ap, ◌∙◌, subst, inl, inr, arith, length-append, length-drop, length-take}
use Rattle.std.specs.Prelude.{◌≢◌}
use Rattle.std.specs.List.{AllByRecursion}
use Rattle.std.proofs.ByRecursion.{All-push, All-take, All-drop}
use Rattle.std.proofs.lemmas.List.{get_or-set_same, get_or-set_other, length_push}
use Rattle.std.proofs.lemmas.Bool.{cond_both, and_from, le-leb, ltb-false, eqb-false, cases_eq}
use Rattle.std.proofs.lemmas.Bool.Decides.{nat_tests}
use Rattle.network.specs.Promise.{Begins, Narrow}
use Rattle.network.proofs.Beginnings.{begins_trans, begins_length, begins_drop, begins_join, take_begins}
use Rattle.network.proofs.Halves.{joined_least}
use Rattle.packet.specs.Inputs.{inputs_fit}
use Rattle.packet.specs.Wire.{Message}
use Rattle.peer.specs.Peers.{joined}
use Rattle.seats.specs.Packets.{Packet, packet_bytes, ack_limit, packet_in}
use Rattle.seats.specs.Network.{packet_from}
use Rattle.seats.specs.Peers.{Log, Event, tick, arrival, row, own, counts, fewest, acked_by_all, with_row, with_message, with_event}
use Rattle.seats.proofs.Least.{others_least, others_met}
use Rattle.seats.proofs.Packets.{packet_read}
use Rattle.seats.proofs.OnePeer.{Grows, by_tick, arrival_own, event_grows, more_counts, near_event, acks_event, count_at, length-counts, own_row}

-- ---- inputs of a packet that join on

joined_begins : (own xs : List ℕ) (m : Message) → Begins xs own → Begins m.inputs (drop m.first own) → Begins (joined xs m) own
unfolding joined
joined_begins own xs m p q =
    cond_both (ltb (length xs) m.first) xs (xs ++ drop (length xs - m.first) m.inputs) (λ r. Begins r own) (λ _. p)
    (λ e. begins_join own xs m.inputs m.first p q (ltb-false (length xs) m.first e))

joined_most : (xs : List ℕ) (m : Message) (c : ℕ) → length xs ≤ c → m.first + length m.inputs ≤ c → length (joined xs m) ≤ c
unfolding joined
joined_most xs m c p q = grind (arith, nat_tests, length-append, length-drop)

-- ---- one peer

-- at one of so many seats: its own inputs are such as packets carry, and within the window of the slowest other
pub record Alone (window seats : ℕ) (log : Log) : Type 0 where
  pub here : log.seat < seats
  pub many : length log.rows ≡ seats
  pub acks : length log.acked ≡ seats
  pub near : length (own log) ≤ fewest log + window
  pub fit : AllByRecursion (λ a. a ≤ 15) (own log)
  pub few : length (own log) ≤ 1000000

-- the fewest of another seat is no more than any has
pub fewest_le : (window seats : ℕ) (log : Log) (j : ℕ) → Alone window seats log → j < seats → j ≢ log.seat → fewest log ≤ length (row log j)
fewest_le window seats log j a h apart =
    omega (arith, count_at log j (omega (arith, a.many)), others_least log.seat (counts log) j (omega (arith, length-counts log, a.here, a.many)) (omega (arith, length-counts log, a.many)) apart)

-- ---- a packet that a peer may have written

-- a part of its own inputs; it acknowledges no more than the peer has of any other seat, and its inputs are within the window of that
pub record Fair (window seats : ℕ) (log : Log) (m : Message) : Type 0 where
  pub part : Begins m.inputs (drop m.first (own log))
  pub made : m.first + length m.inputs ≤ length (own log)
  pub few : length m.inputs ≤ 120
  pub fit : AllByRecursion (λ a. a ≤ 15) m.inputs
  pub known : (j : ℕ) → j < seats → j ≢ log.seat → m.ack ≤ length (row log j)
  pub near : m.first + length m.inputs ≤ m.ack + window

-- ---- what a peer has of another

-- a beginning of its inputs; and each acknowledged what it has
pub record Pair (window : ℕ) (me you : Log) : Type 0 where
  pub begins : Begins (row me you.seat) (own you)
  pub within : length (row me you.seat) ≤ get_or me.acked you.seat 0 + window
  pub known : get_or me.acked you.seat 0 ≤ length (row you me.seat)

all_fit : (xs : List ℕ) → AllByRecursion (λ a. a ≤ 15) xs → inputs_fit xs ≡ true
all_fit [] h = refl
all_fit (x ∷ xs) h = and_from (leb x 15) (inputs_fit xs) (le-leb x 15 h.0) (all_fit xs h.1)

module _ (window seats : ℕ) where
  pub own_grows : (log to : Log) → Grows log to → Begins (own log) (own to)
  own_grows log to g = subst (λ i. Begins (own log) (row to i)) (sym g.same_seat) (g.rows log.seat)

  pub fair_grows : (log to : Log) → Grows log to → (m : Message) → Fair window seats log m → Fair window seats to m
  fair_grows log to g m f =
      let mine = own_grows log to g in
      record {
        part = begins_trans m.inputs (drop m.first (own log)) (drop m.first (own to)) f.part (begins_drop m.first (own log) (own to) mine);
        made = omega (arith, f.made, begins_length (own log) (own to) mine);
        few = f.few;
        fit = f.fit;
        known = λ j h apart. omega (arith, f.known j h (λ e. apart (e ∙ sym g.same_seat)), more_counts log to g j);
        near = f.near;
      }

  pub written_length : (log : Log) (from n : ℕ) → length (packet_from log from n).message.inputs ≡ min (min n 120) (length (own log) - min from (length (own log)))
  unfolding packet_from
  written_length log from n = simp (length-take, length-drop)

  pub fair_written : (log : Log) (from n : ℕ) → Alone window seats log → Fair window seats log (packet_from log from n).message
  unfolding packet_from
  fair_written log from n a =
      let k : ℕ = min from (length (own log)) in
      let len = written_length log from n in
      record {
        part = take_begins (min n 120) (drop k (own log));
        made = omega (arith, len);
        few = omega (arith, len);
        fit = All-take (λ a. a ≤ 15) (min n 120) (drop k (own log)) (All-drop (λ a. a ≤ 15) k (own log) a.fit);
        known = λ j h apart. fewest_le window seats log j a h apart;
        near = omega (arith, len, a.near);
      }

  -- ---- an event

  own_fits : (fits : ℕ → Bool) (log : Log) (e : Event) → Narrow fits → Alone window seats log → AllByRecursion (λ b. b ≤ 15) (own (with_event fits window log e)) × (length (own (with_event fits window log e)) ≤ 1000000)
  own_fits fits log (tick a) narrow h =
      by_tick fits window log a (λ on. AllByRecursion (λ b. b ≤ 15) (own on) × (length (own on) ≤ 1000000)) (h.fit, h.few)
      (λ ok few near.
      let e = own_row log (own log ++ a ∷ []) (omega (arith, h.here, h.many)) in
      (subst (AllByRecursion (λ b. b ≤ 15)) (sym e) (All-push (λ b. b ≤ 15) (own log) a h.fit (narrow a ok)), omega (arith, ap length e, length_push (own log) a)))
  own_fits fits log (arrival xs) narrow h =
      let e = arrival_own fits window log xs in (subst (AllByRecursion (λ b. b ≤ 15)) (sym e) h.fit, omega (arith, ap length e, h.few))

  pub alone_event : (fits : ℕ → Bool) (log : Log) (e : Event) → Narrow fits → Alone window seats log → Alone window seats (with_event fits window log e)
  alone_event fits log e narrow h =
      let g : Grows log (with_event fits window log e) = event_grows fits window log e in
      let own = own_fits fits log e narrow h in
      record {
        here = omega (arith, h.here, g.same_seat);
        many = g.many ∙ h.many;
        acks = acks_event fits window log e ∙ h.acks;
        near = near_event fits window log e (omega (arith, h.here, h.many)) h.near;
        fit = own.0;
        few = own.1;
      }

  pub pair_tick : (fits : ℕ → Bool) (me you : Log) (a : ℕ) → you.seat ≢ me.seat → Pair window me you → Pair window (with_event fits window me (tick a)) you
  pair_tick fits me you a apart p =
      by_tick fits window me a (λ to. Pair window to you) p
      (λ _ _ _.
      let e : row (with_row me me.seat (own me ++ a ∷ [])) you.seat ≡ row me you.seat = get_or-set_other me.rows me.seat you.seat (own me ++ a ∷ []) [] apart in
      record { begins = subst (λ r. Begins r (own you)) (sym e) p.begins; within = omega (arith, ap length e, p.within); known = p.known })

  -- the other goes on
  pub pair_beside : (me you to : Log) → Grows you to → Pair window me you → Pair window me to
  pair_beside me you to g p =
      record {
        begins = subst (λ i. Begins (row me i) (own to)) (sym g.same_seat) (begins_trans (row me you.seat) (own you) (own to) p.begins (own_grows you to g));
        within = subst (λ i. length (row me i) ≤ get_or me.acked i 0 + window) (sym g.same_seat) p.within;
        known = subst (λ i. get_or me.acked i 0 ≤ length (row to me.seat)) (sym g.same_seat) (omega (arith, p.known, more_counts you to g me.seat));
      }

  -- ---- a packet that comes

  -- what a peer wrote is read as it was written, where it can come
  pub read_as : (me you : Log) (p : Packet) → Alone window seats me → Alone window seats you → p.seat ≡ you.seat → (you.seat ≡ me.seat → 2 < seats) → (you.seat ≢ me.seat → Pair window you me) → p.message.ack ≤ 1000000 → Fair window seats you p.message → packet_in seats me.seat (length (own me)) (packet_bytes seats p) ≡ Ok p
  read_as me you p a b e comes pair small f =
      let m : Message = p.message in
      let known : m.ack ≤ ack_limit me.seat (length (own me)) p.seat m.ack =
      cond_both (eqb p.seat me.seat) m.ack (length (own me)) (λ n. m.ack ≤ n) (λ _. omega arith)
      (λ no.
      let apart : you.seat ≢ me.seat = λ g. eqb-false p.seat me.seat no (e ∙ g) in
      omega (arith, f.known me.seat a.here (λ g. apart (sym g)), begins_length (row you me.seat) (own me) (pair apart).begins)) in
      packet_read seats me.seat (length (own me)) p (omega (arith, a.few)) (omega (arith, small)) a.here
      (record {
        there = omega (arith, e, b.here);
        comes = λ g. comes (sym e ∙ g);
        proper = record { few = f.few; whole = omega (arith, b.few, f.made); fit = all_fit m.inputs f.fit; known = known };
      })

  -- of its writer there are more inputs then, of the others as many as before
  pair_writer : (me you : Log) (m : Message) → Alone window seats me → you.seat < seats → you.seat ≢ me.seat → Pair window me you → Fair window seats you m → Pair window (with_message me you.seat m) you
  pair_writer me you m a there apart p f =
      let j : ℕ = you.seat in
      let er : row (with_message me j m) j ≡ joined (row me j) m = get_or-set_same me.rows j (joined (row me j) m) [] (omega (arith, a.many)) in
      let ea : get_or (with_message me j m).acked j 0 ≡ max (get_or me.acked j 0) m.ack = get_or-set_same me.acked j (max (get_or me.acked j 0) m.ack) 0 (omega (arith, a.acks)) in
      let most = joined_most (row me j) m (max (get_or me.acked j 0) m.ack + window) (omega (arith, p.within)) (omega (arith, f.near)) in
      record {
        begins = subst (λ r. Begins r (own you)) (sym er) (joined_begins (own you) (row me j) m p.begins f.part);
        within = omega (arith, ap length er, ea, most);
        known = omega (arith, ea, p.known, f.known me.seat a.here (λ e. apart (sym e)));
      }

  pair_third : (me you : Log) (seat : ℕ) (m : Message) → you.seat ≢ seat → Pair window me you → Pair window (with_message me seat m) you
  pair_third me you seat m apart p =
      let er : row (with_message me seat m) you.seat ≡ row me you.seat = get_or-set_other me.rows seat you.seat (joined (row me seat) m) [] apart in
      let ea : get_or (with_message me seat m).acked you.seat 0 ≡ get_or me.acked you.seat 0 = get_or-set_other me.acked seat you.seat (max (get_or me.acked seat 0) m.ack) 0 apart in
      record { begins = subst (λ r. Begins r (own you)) (sym er) p.begins; within = omega (arith, ap length er, ea, p.within); known = omega (arith, ea, p.known) }

  pub pair_message : (me you : Log) (seat : ℕ) (m : Message) → Alone window seats me → you.seat < seats → you.seat ≢ me.seat → Pair window me you → (you.seat ≡ seat → Fair window seats you m) → Pair window (with_message me seat m) you
  pair_message me you seat m a there apart p f =
      elim (cases_eq you.seat seat) [
        | inl e ↦ subst (λ i. Pair window (with_message me i m) you) e (pair_writer me you m a there apart p (f e))
        | inr e ↦ pair_third me you seat m e p
      ]

  -- with a window of 60 a packet with 120 inputs from the most on that all acknowledged has all, and joins on at every other seat
  pub joins : (m : ℕ) (w r to : Log) → window ≤ 60 → Alone window seats w → r.seat < seats → r.seat ≢ w.seat → ((j : ℕ) → j < seats → j ≢ w.seat → length (row w j) ≤ get_or w.acked j 0 + window) → Pair window w r → Grows r to → m ≤ length (own w) → m ≤ length (joined (row to w.seat) (packet_from w (acked_by_all w) 120).message)
  unfolding packet_from
  joins m w r to small a there apart within p g made =
      let len = written_length w (acked_by_all w) 120 in
      let met = others_met w.seat w.acked (omega (arith, a.here, a.acks)) (omega (arith, a.here, a.acks)) in
      let slow : ℕ = met.0 in
      let at : slow < seats = omega (arith, met.1, a.acks) in
      let own_near : length (own w) ≤ length (row w slow) + window = omega (arith, a.near, fewest_le window seats w slow a at met.2) in
      let all : acked_by_all w ≤ get_or w.acked r.seat 0 = others_least w.seat w.acked r.seat (omega (arith, a.here, a.acks)) (omega (arith, a.acks)) apart in
      let least = joined_least (row to w.seat) (packet_from w (acked_by_all w) 120).message (omega (arith, all, p.known, more_counts r to g w.seat)) in
      omega (arith, own_near, within slow at met.2, met.3, len, least, made)
