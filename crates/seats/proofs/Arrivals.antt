-- A packet with all that is not acknowledged by all, and what its arrival brings. Assumes nothing.
use Rattle.std.proofs.Common.{◌≡◌, ℕ, ◌+◌, ◌<◌, ◌≤◌, Bool, List, [], ◌∷◌, ◌++◌, length, get_or, sym, refl, ap, ◌∙◌, subst, inl, inr, arith}
use Rattle.std.specs.Prelude.{◌≢◌}
use Rattle.std.proofs.ByRecursion.{All-get_or}
use Rattle.std.proofs.lemmas.Bool.{cases_eq}
use Rattle.std.proofs.lemmas.List.Prefix.{front_reads}
use Rattle.std.proofs.lemmas.List.{get_or_push, get_or-set_same, length_push}
use Rattle.network.specs.Promise.{Narrow}
use Rattle.network.proofs.Beginnings.{begins_length}
use Rattle.peer.specs.Peers.{joined}
use Rattle.seats.specs.Packets.{Packet, packet_bytes}
use Rattle.seats.specs.Network.{Network, Seat, Turn, send, deliver, with_peer, packet_from, with_delivery, with_turn, with_turns, new_network, network}
use Rattle.seats.specs.Peers.{Log, arrival, row, own, counts, frames, least, acked_by_all, with_message, with_event}
use Rattle.seats.specs.Promise.{Came, AllSure}
use Rattle.seats.proofs.Least.{least_from}
use Rattle.seats.proofs.OnePeer.{length-counts, count_at, more_counts}
use Rattle.seats.proofs.Networks.{Fine, Inv, event_is, inv_turn, inv_turns, inv_network, another}
use Rattle.seats.proofs.Pairs.{joins}
use Rattle.seats.proofs.Turns.{peer_there, delivery_there, turns_append, packets_turns, grown}

written_seat : (log : Log) (from n : ℕ) → (packet_from log from n).seat ≡ log.seat
unfolding packet_from
written_seat log from n = refl

module _ (fits : ℕ → Bool) (window : ℕ) (narrow : Narrow fits) (small : window ≤ 60) (m : ℕ) {seats : ℕ} where
  -- it is written, anything happens, and it is delivered
  arrives : (n : Network) (i j : Seat seats) (between : List (Turn seats)) → i.0 ≢ j.0 → Inv window seats n → m ≤ length (own (n.peers i.0)) →
      m ≤ length (row ((with_turn fits window (with_turns fits window (with_turn fits window n (send i (acked_by_all (n.peers i.0)) 120)) between) (deliver j (length n.packets))).peers j.0) i.0)
  unfolding with_turn with_turns
  arrives n i j between apart v made =
      let w : Log = n.peers i.0 in
      let r : Log = n.peers j.0 in
      let l : Packet = packet_from w (acked_by_all w) 120 in
      let k : ℕ = length n.packets in
      let sent : Turn seats = send i (acked_by_all w) 120 in
      let n1 : Network = with_turn fits window n sent in
      let n2 : Network = with_turns fits window n1 between in
      let v2 : Inv window seats n2 = inv_turns fits window narrow n1 between (inv_turn fits window narrow n sent v) in
      let to : Log = n2.peers j.0 in
      let since = packets_turns fits window n1 between in
      let there : k < length n2.packets = omega (arith, length_push n.packets l, begins_length n1.packets n2.packets since) in
      let is : get_or n2.packets k l ≡ l =
      front_reads l n2.packets n1.packets since.0 since.1 k (omega (arith, length_push n.packets l)) ∙ get_or_push n.packets l l k refl in
      let from : l.seat ≡ i.0 = written_seat w (acked_by_all w) 120 ∙ v.seat i.0 in
      let fine : Fine window seats n2.peers l = subst (Fine window seats n2.peers) is (All-get_or _ n2.packets k l there v2.packets) in
      let got : (with_peer n2 j.0 (with_delivery fits window seats to n2.packets k)).peers j.0 ≡ with_message to l.seat l.message =
      peer_there n2 j.0 _
      ∙ delivery_there fits window seats to n2.packets k l there (λ e. apart (sym from ∙ sym (ap (λ (x : Packet). x.seat) is) ∙ e ∙ v2.seat j.0))
      ∙ ap (λ x. with_event fits window to (arrival (packet_bytes seats x))) is
      ∙ event_is window seats fits n2 v2 j.0 j.1 l fine (λ e. apart (sym from ∙ e)) in
      let put : row (with_message to i.0 l.message) i.0 ≡ joined (row to i.0) l.message = get_or-set_same to.rows i.0 (joined (row to i.0) l.message) [] (omega (arith, (v2.alone j.0 j.1).many, i.1)) in
      let e : row (with_message to l.seat l.message) i.0 ≡ joined (row to i.0) l.message = ap (λ s. row (with_message to s l.message) i.0) from ∙ put in
      subst (λ log. m ≤ length (row log i.0)) (sym got)
      (omega (
        arith,
        ap length e,
        subst (λ s. m ≤ length (joined (row to s) l.message)) (v.seat i.0)
            (joins window seats m w r to small (v.alone i.0 i.1) (omega (arith, v.seat j.0, j.1)) (λ f. apart (sym (v.seat i.0) ∙ sym f ∙ v.seat j.0))
            (λ s h other. subst (λ t. length (row w t) ≤ get_or w.acked t 0 + window) (v.seat s) (v.pairs i.0 s i.1 h (λ f. other (f ∙ sym (v.seat i.0)))).within)
            (v.pairs i.0 j.0 i.1 j.1 (λ f. apart (sym f))) (grown fits window n (sent ∷ between) j.0) made),
      ))

  came : (ts : List (Turn seats)) (i j : Seat seats) → i.0 ≢ j.0 → Came fits window seats m ts i j →
      (m ≤ length (row ((network fits window ts).peers i.0) i.0)) × (m ≤ length (row ((network fits window ts).peers j.0) i.0))
  unfolding with_turns
  came ts i j apart c =
      let n : Network = network fits window c.before in
      let v : Inv window seats n = inv_network fits window narrow c.before in
      let sent : Turn seats = send i (acked_by_all (n.peers i.0)) 120 in
      let got : Turn seats = deliver j (length n.packets) in
      let n1 : Network = with_turn fits window n sent in
      let n3 : Network = with_turn fits window (with_turns fits window n1 c.between) got in
      let whole : network fits window ts ≡ with_turns fits window n (sent ∷ (c.between ++ got ∷ c.after)) =
      ap (λ us. network fits window us) c.so ∙ turns_append fits window (new_network seats) c.before _ in
      let end : network fits window ts ≡ with_turns fits window n3 c.after = whole ∙ turns_append fits window n1 c.between (got ∷ c.after) in
      let mine : m ≤ length (row (n.peers i.0) i.0) = subst (λ s. m ≤ length (row (n.peers i.0) s)) (v.seat i.0) c.made in
      let more = more_counts (n.peers i.0) _ (grown fits window n (sent ∷ (c.between ++ got ∷ c.after)) i.0) i.0 in
      let since = more_counts (n3.peers j.0) _ (grown fits window n3 c.after j.0) i.0 in
      let there = arrives n i j c.between apart v c.made in (
        subst (λ x. m ≤ length (row (x.peers i.0) i.0)) (sym whole) (omega (arith, mine, more)),
        subst (λ x. m ≤ length (row (x.peers j.0) i.0)) (sym end) (omega (arith, there, since)),
      )

pub all_sure : AllSure
all_sure window small fits seats m ts narrow two c i =
    let log : Log = (network fits window ts).peers i.0 in
    let v = inv_network fits window narrow ts in
    let many : length (counts log) ≡ seats = length-counts log ∙ (v.alone i.0 i.1).many in
    let o = another seats two i.0 in
    let mine : m ≤ length (row log i.0) = (came fits window narrow small m ts i o.0 o.1 (c i o.0 o.1)).0 in
    let played : m ≤ frames log = subst (λ s. m ≤ length (row log s)) (sym (v.seat i.0)) mine in
    let all : m ≤ least (counts log) =
    least_from m (counts log) (omega (arith, many))
    (λ j h.
    let l : j < length log.rows = omega (arith, h, length-counts log) in
    let at : Seat seats = (j, omega (arith, h, many)) in
    let each : m ≤ length (row log j) =
    elim (cases_eq j i.0) [
      | inl e ↦ subst (λ s. m ≤ length (row log s)) (sym e) mine
      | inr e ↦ (came fits window narrow small m ts at i e (c at i e)).1
    ] in
    omega (arith, count_at log j l, each)) in
    omega (arith, played, all)
