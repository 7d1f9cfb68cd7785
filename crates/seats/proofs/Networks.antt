-- What every row of turns keeps, and what follows at every network. Assumes nothing.
use Rattle.std.proofs.Common.{◌≡◌, ℕ, ◌<◌, ◌≤◌, Bool, List, [], ◌∷◌, length, take, Ok, sym, refl, ap, ◌∙◌, subst, inl, inr, arith}
use Rattle.std.specs.Prelude.{◌≢◌}
use Rattle.std.specs.List.{AllByRecursion}
use Rattle.std.proofs.ByRecursion.{All-push, All-weaker}
use Rattle.std.proofs.lemmas.List.{length-replicate, get_or-replicate}
use Rattle.std.proofs.lemmas.Bool.{cases_eq}
use Rattle.network.specs.Promise.{Begins, Narrow}
use Rattle.network.proofs.Beginnings.{begins_refl, begins_length, begins_take}
use Rattle.seats.specs.Packets.{Packet, packet_bytes, packet_in}
use Rattle.seats.specs.Network.{Network, Seat, Turn, tick, send, deliver, with_peer, packet_from, with_delivery, with_turn, with_turns, new_network, network}
use Rattle.seats.specs.Peers.{Log, Event, arrival, new_log, row, own, with_message, with_event, confirmed}
use Rattle.seats.specs.Promise.{SameInputs, OneGame, NoneRefused}
use Rattle.seats.proofs.OnePeer.{Grows, grows_refl, event_grows, event_message, confirmed_le, none_known}
use Rattle.seats.proofs.Pairs.{Alone, Pair, Fair, fair_grows, fair_written, alone_event, pair_tick, pair_message, pair_beside, read_as}
use Rattle.seats.proofs.Plays.{rows_same}
use Rattle.seats.proofs.Turns.{by_peer, by_delivery, delivery_grows}

-- a packet of the pool, by the peer that wrote it
pub record Fine (window seats : ℕ) (peers : ℕ → Log) (l : Packet) : Type 0 where
  pub there : l.seat < seats
  pub fair : Fair window seats (peers l.seat) l.message

pub record Inv (window seats : ℕ) (n : Network) : Type 0 where
  pub seat : (i : ℕ) → (n.peers i).seat ≡ i
  pub alone : (i : ℕ) → i < seats → Alone window seats (n.peers i)
  pub pairs : (i j : ℕ) → i < seats → j < seats → j ≢ i → Pair window (n.peers i) (n.peers j)
  pub packets : AllByRecursion (Fine window seats n.peers) n.packets

-- some other seat
pub another : (seats : ℕ) → 2 ≤ seats → (i : ℕ) → (j : Seat seats) × (i ≢ j.0)
another seats two i =
    elim (cases_eq i 0) [
      | inl e ↦ ((1, omega arith), λ f. omega arith)
      | inr e ↦ ((0, omega arith), e)
    ]

module _ (window seats : ℕ) where
  inv_new : Inv window seats (new_network seats)
  inv_new =
      let no_row : (i j : ℕ) → j < seats → row (new_log seats i) j ≡ [] = λ i j h. get_or-replicate seats j [] [] h in
      record {
        seat = λ i. refl;
        alone = λ i h.
            record {
              here = h;
              many = length-replicate seats [];
              acks = length-replicate seats 0;
              near = omega (arith, ap length (no_row i i h));
              fit = subst (AllByRecursion (λ a. a ≤ 15)) (sym (no_row i i h)) tt;
              few = omega (arith, ap length (no_row i i h));
            };
        pairs = λ i j h k _.
            record {
              begins = subst (λ r. Begins r (own (new_log seats j))) (sym (no_row i j k)) (own (new_log seats j), refl);
              within = omega (arith, ap length (no_row i j k));
              known = omega (arith, none_known seats j);
            };
        packets = tt;
      }

  -- one peer goes on
  inv_peer : (n : Network) (i : ℕ) (to : Log) → i < seats → Inv window seats n → Alone window seats to → Grows (n.peers i) to → ((j : ℕ) → j < seats → j ≢ i → Pair window to (n.peers j)) → Inv window seats (with_peer n i to)
  inv_peer n i to h v alone grows pair =
      let at : Network = with_peer n i to in
      let grown : (j : ℕ) → Grows (n.peers j) (at.peers j) = λ j. by_peer n i to j (Grows (n.peers j)) (λ e. subst (λ k. Grows (n.peers k) to) (sym e) grows) (λ _. grows_refl (n.peers j)) in
      record {
        seat = λ j. (grown j).same_seat ∙ v.seat j;
        alone = λ j l. by_peer n i to j (Alone window seats) (λ _. alone) (λ _. v.alone j l);
        pairs = λ j k hj hk apart.
            pair_beside window seats (at.peers j) (n.peers k) (at.peers k) (grown k)
            (by_peer n i to j (λ me. Pair window me (n.peers k)) (λ e. pair k hk (λ f. apart (f ∙ sym e))) (λ _. v.pairs j k hj hk apart));
        packets = All-weaker (Fine window seats n.peers) (Fine window seats at.peers)
            (λ l f. record { there = f.there; fair = fair_grows window seats (n.peers l.seat) (at.peers l.seat) (grown l.seat) l.message f.fair }) n.packets v.packets;
      }

  -- a packet acknowledges no more than another made
  ack_small : (n : Network) → Inv window seats n → 2 ≤ seats → (p : Packet) → Fine window seats n.peers p → p.message.ack ≤ 1000000
  ack_small n v two p f =
      let o = another seats two p.seat in
      let near = f.fair.known o.0.0 o.0.1 (λ e. o.1 (sym (v.seat p.seat) ∙ sym e)) in
      let begins = (v.pairs p.seat o.0.0 f.there o.0.1 (λ e. o.1 (sym e))).begins in
      let e : row (n.peers p.seat) (n.peers o.0.0).seat ≡ row (n.peers p.seat) o.0.0 = ap (row (n.peers p.seat)) (v.seat o.0.0) in
      omega (arith, near, ap length e, begins_length _ _ begins, (v.alone o.0.0 o.0.1).few)

  -- every packet is taken by every peer that it can come to
  pub all_taken : (n : Network) → Inv window seats n → (i : ℕ) → i < seats → (p : Packet) → Fine window seats n.peers p → (p.seat ≡ i → 2 < seats) → packet_in seats i (length (own (n.peers i))) (packet_bytes seats p) ≡ Ok p
  all_taken n v i h p f comes =
      let me : Log = n.peers i in
      let you : Log = n.peers p.seat in
      let two : 2 ≤ seats = elim (cases_eq p.seat i) [
        | inl e ↦ omega (arith, comes e)
        | inr e ↦ omega (arith, f.there)
      ] in
      let same : (you.seat ≡ me.seat) → p.seat ≡ i = λ e. sym (v.seat p.seat) ∙ e ∙ v.seat i in
      subst (λ k. packet_in seats k (length (own me)) (packet_bytes seats p) ≡ Ok p) (v.seat i)
      (read_as window seats me you p (v.alone i h) (v.alone p.seat f.there) (sym (v.seat p.seat)) (λ e. comes (same e))
      (λ apart. v.pairs p.seat i f.there h (λ e. apart (v.seat p.seat ∙ sym e ∙ sym (v.seat i))))
      (ack_small n v two p f) f.fair)

  pub event_is : (fits : ℕ → Bool) (n : Network) → Inv window seats n → (i : ℕ) → i < seats → (p : Packet) → Fine window seats n.peers p → p.seat ≢ i → with_event fits window (n.peers i) (arrival (packet_bytes seats p)) ≡ with_message (n.peers i) p.seat p.message
  event_is fits n v i h p f apart =
      let me : Log = n.peers i in
      let read : packet_in (length me.rows) me.seat (length (own me)) (packet_bytes seats p) ≡ Ok p =
      ap (λ s. packet_in s me.seat (length (own me)) (packet_bytes seats p)) (v.alone i h).many
      ∙ ap (λ s. packet_in seats s (length (own me)) (packet_bytes seats p)) (v.seat i)
      ∙ all_taken n v i h p f (λ e. absurd (apart e)) in
      event_message fits window me (packet_bytes seats p) p read (λ e. apart (e ∙ v.seat i))

module _ (fits : ℕ → Bool) (window : ℕ) (narrow : Narrow fits) {seats : ℕ} where
  pub inv_turn : (n : Network) (t : Turn seats) → Inv window seats n → Inv window seats (with_turn fits window n t)
  unfolding with_turn packet_from
  inv_turn n (tick i a) v =
      let me : Log = n.peers i.0 in
      let e : me.seat ≡ i.0 = v.seat i.0 in
      inv_peer window seats n i.0 (with_event fits window me (Event.tick a)) i.1 v (alone_event window seats fits me (Event.tick a) narrow (v.alone i.0 i.1)) (event_grows fits window me (Event.tick a))
      (λ j h apart. pair_tick window seats fits me (n.peers j) a (λ f. apart (sym (v.seat j) ∙ f ∙ e)) (v.pairs i.0 j i.1 h apart))
  inv_turn n (send i from k) v =
      let me : Log = n.peers i.0 in
      let l : Packet = packet_from me from k in
      let f : Fair window seats me l.message = fair_written window seats me from k (v.alone i.0 i.1) in
      record {
        seat = v.seat;
        alone = v.alone;
        pairs = v.pairs;
        packets = All-push (Fine window seats n.peers) n.packets l v.packets (record { there = (v.alone i.0 i.1).here; fair = subst (λ s. Fair window seats (n.peers s) l.message) (sym (v.seat i.0)) f });
      }
  inv_turn n (deliver i k) v =
      let me : Log = n.peers i.0 in
      let e : me.seat ≡ i.0 = v.seat i.0 in
      let Good : Log → Type 0 = λ to. Alone window seats to × ((j : ℕ) → j < seats → j ≢ i.0 → Pair window to (n.peers j)) in
      let each : AllByRecursion (λ l. l.seat ≢ me.seat → Good (with_event fits window me (arrival (packet_bytes seats l)))) n.packets =
      All-weaker (Fine window seats n.peers) _
      (λ l f apart. (
        alone_event window seats fits me (arrival (packet_bytes seats l)) narrow (v.alone i.0 i.1),
        λ j h other.
            subst (λ to. Pair window to (n.peers j)) (sym (event_is window seats fits n v i.0 i.1 l f (λ g. apart (g ∙ sym e))))
            (pair_message window seats me (n.peers j) l.seat l.message (v.alone i.0 i.1) (omega (arith, v.seat j, h)) (λ g. other (sym (v.seat j) ∙ g ∙ e)) (v.pairs i.0 j i.1 h other)
            (λ g. subst (λ s. Fair window seats (n.peers s) l.message) (sym g ∙ v.seat j) f.fair)),
      ))
      n.packets v.packets in
      let good = by_delivery fits window seats me n.packets k Good (v.alone i.0 i.1).many (v.alone i.0 i.1, λ j h apart. v.pairs i.0 j i.1 h apart) each in
      inv_peer window seats n i.0 (with_delivery fits window seats me n.packets k) i.1 v good.0 (delivery_grows fits window seats me n.packets k) good.1

  pub inv_turns : (n : Network) (ts : List (Turn seats)) → Inv window seats n → Inv window seats (with_turns fits window n ts)
  unfolding with_turns
  inv_turns n [] v = v
  inv_turns n (t ∷ ts) v = inv_turns (with_turn fits window n t) ts (inv_turn n t v)

  pub inv_network : (ts : List (Turn seats)) → Inv window seats (network fits window ts)
  inv_network ts = inv_turns (new_network seats) ts (inv_new window seats)

-- ---- what follows

pub none_refused : NoneRefused
none_refused fits window seats ts narrow i =
    let n : Network = network fits window ts in
    let v = inv_network fits window narrow ts in
    All-weaker (Fine window seats n.peers) _ (λ p f comes. all_taken window seats n v i.0 i.1 p f comes) n.packets v.packets

-- a peer's row of a seat is a beginning of what was made there
rows_begin : (window seats : ℕ) (n : Network) → Inv window seats n → (i j : ℕ) → i < seats → j < seats → Begins (row (n.peers i) j) (own (n.peers j))
rows_begin window seats n v i j h k =
    elim (cases_eq j i) [
      | inl e ↦ subst (λ s. Begins (row (n.peers s) j) (own (n.peers j))) e (subst (λ s. Begins (row (n.peers j) j) (row (n.peers j) s)) (sym (v.seat j)) (begins_refl (row (n.peers j) j)))
      | inr e ↦ subst (λ s. Begins (row (n.peers i) s) (own (n.peers j))) (v.seat j) (v.pairs i j h k e).begins
    ]

-- and of the confirmed frames it has the same inputs as was made there
first_same : (window seats : ℕ) (n : Network) → Inv window seats n → (i j k : ℕ) → i < seats → j < seats → k ≤ confirmed (n.peers i) → take k (row (n.peers i) j) ≡ take k (own (n.peers j))
first_same window seats n v i j k h l p =
    sym (begins_take k (row (n.peers i) j) (own (n.peers j)) (rows_begin window seats n v i j h l) (omega (arith, confirmed_le (n.peers i) j (omega (arith, (v.alone i h).many)))))

pub same_inputs : SameInputs
same_inputs fits window seats ts narrow i j =
    let n : Network = network fits window ts in
    let v = inv_network fits window narrow ts in (
      rows_begin window seats n v i.0 j.0 i.1 j.1,
      λ k at p q. first_same window seats n v i.0 at.0 k i.1 at.1 p ∙ sym (first_same window seats n v j.0 at.0 k j.1 at.1 q),
    )

pub one_game : (S : Type 0) → OneGame S
one_game S g fits window seats ts narrow i j k p q =
    let n : Network = network fits window ts in
    let v = inv_network fits window narrow ts in
    let same = (same_inputs fits window seats ts narrow i j).1 in
    rows_same g g.start (n.peers i.0).rows (n.peers j.0).rows k ((v.alone i.0 i.1).many ∙ sym (v.alone j.0 j.1).many)
    (λ at h. same k (at, omega (arith, h, (v.alone i.0 i.1).many)) p q)
