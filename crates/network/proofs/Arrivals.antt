-- A packet with all that is not acknowledged, and what its arrival brings. Assumes nothing.
use Rattle.std.proofs.Common.{◌≡◌, ℕ, ◌<◌, ◌≤◌, Bool, List, [], ◌∷◌, ◌++◌, length, get_or, Ok, sym, refl, ap, ◌∙◌, subst, arith}
use Rattle.std.proofs.ByRecursion.{All-get_or}
use Rattle.std.proofs.lemmas.List.Prefix.{front_reads}
use Rattle.std.proofs.lemmas.List.{get_or_push, length_push}
use Rattle.game.specs.Seats.{facing}
use Rattle.game.specs.declared.seat.Seat.{Seat}
use Rattle.game.specs.declared.seat.Seat.TheVariants.{Left, Right}
use Rattle.packet.specs.Wire.{Message, message_bytes, reading}
use Rattle.peer.specs.Peers.{Log, arrival, joined, heard, event}
use Rattle.network.specs.Network.{Network, Turn, send, deliver, peer_at, packets_to, with_peer, with_packet, written, handed, turn, turns, new_network, network}
use Rattle.network.specs.Promise.{Narrow, Came, BothSure}
use Rattle.network.proofs.Beginnings.{begins_length}
use Rattle.network.proofs.OnePeer.{Grows}
use Rattle.network.proofs.Halves.{Half, written_length, joined_least}
use Rattle.network.proofs.Networks.{Inv, across, all_taken, inv_turn, inv_turns, inv_network}
use Rattle.network.proofs.Rows.{turns_append, handed_there, later_turns, grown}

pub peer_there : (n : Network) (seat : Seat) (log : Log) → peer_at (with_peer n seat log) seat ≡ log
peer_there n Left log = refl
peer_there n Right log = refl

pub packets_there : (n : Network) (seat : Seat) (m : Message) → packets_to (with_packet n seat m) seat ≡ packets_to n seat ++ m ∷ []
packets_there n Left m = refl
packets_there n Right m = refl

-- with a window of 60 one packet has all inputs from the most acknowledged on, and joins on
joins : (window m : ℕ) (w r to : Log) (ms back : List Message) → window ≤ 60 → Half window w r ms → Half window r w back → Grows r to → m ≤ length w.own → m ≤ length (joined to.other (written w w.acked 120))
unfolding written
joins window m w r to ms back small h b g made =
    let len = written_length w w.acked 120 in
    let mine : length r.other ≤ length w.own = begins_length r.other w.own b.begins in
    let more : length r.other ≤ length to.other = begins_length r.other to.other g.other in
    let least = joined_least to.other (written w w.acked 120) (omega (arith, h.known)) in
    omega (arith, h.known, h.near, h.heard)

module _ (fits : ℕ → Bool) (window : ℕ) (narrow : Narrow fits) (small : window ≤ 60) (m : ℕ) where
  -- it is written, anything happens, and it is handed over
  arrives : (n : Network) (seat : Seat) (between : List Turn) → Inv window n → m ≤ length (peer_at n seat).own →
      m ≤ length (peer_at (turn fits window (turns fits window (turn fits window n (send seat (peer_at n seat).acked 120)) between) (deliver (facing seat) (length (packets_to n (facing seat))))) (facing seat)).other
  unfolding turn turns event
  arrives n seat between i made =
      let w : Log = peer_at n seat in
      let p : Message = written w w.acked 120 in
      let old : List Message = packets_to n (facing seat) in
      let k : ℕ = length old in
      let sent : Turn = send seat w.acked 120 in
      let n1 : Network = turn fits window n sent in
      let n2 : Network = turns fits window n1 between in
      let to : Log = peer_at n2 (facing seat) in
      let ms : List Message = packets_to n2 (facing seat) in
      let since = (later_turns fits window n1 between (facing seat)).1 in
      let put : packets_to n1 (facing seat) ≡ old ++ p ∷ [] = packets_there n (facing seat) p in
      let len : k < length (packets_to n1 (facing seat)) = omega (arith, ap length put, length_push old p) in
      let there : k < length ms = omega (arith, begins_length (packets_to n1 (facing seat)) ms since) in
      let is : get_or ms k p ≡ p =
      front_reads p ms (packets_to n1 (facing seat)) since.0 since.1 k len ∙ ap (λ l. get_or l k p) put ∙ get_or_push old p p k refl in
      let all = all_taken window n2 (inv_turns fits window narrow n1 between (inv_turn fits window narrow n sent i)) (facing seat) in
      let read : reading (length to.own) (message_bytes p) ≡ Ok p =
      subst (λ x. reading (length to.own) (message_bytes x) ≡ Ok x) is (All-get_or _ ms k p there all) in
      let got : peer_at (with_peer n2 (facing seat) (handed fits window to ms k)) (facing seat) ≡ heard to (Ok p) =
      peer_there n2 (facing seat) _ ∙ handed_there fits window to ms k p there ∙ ap (λ x. event fits window to (arrival (message_bytes x))) is ∙ ap (heard to) read in
      subst (λ l. m ≤ length l.other) (sym got)
      (joins window m w (peer_at n (facing seat)) to (packets_to n seat) old small (i seat) (across window n i seat) (grown fits window n (sent ∷ between) (facing seat)) made)

  came : (ts : List Turn) (seat : Seat) → Came fits window m ts seat →
      (m ≤ length (peer_at (network fits window ts) seat).own) × (m ≤ length (peer_at (network fits window ts) (facing seat)).other)
  unfolding turns
  came ts seat c =
      let n : Network = network fits window c.before in
      let sent : Turn = send seat (peer_at n seat).acked 120 in
      let got : Turn = deliver (facing seat) (length (packets_to n (facing seat))) in
      let n1 : Network = turn fits window n sent in
      let n3 : Network = turn fits window (turns fits window n1 c.between) got in
      let whole : network fits window ts ≡ turns fits window n (sent ∷ (c.between ++ got ∷ c.after)) =
      ap (network fits window) c.so ∙ turns_append fits window new_network c.before _ in
      let end : network fits window ts ≡ turns fits window n3 c.after = whole ∙ turns_append fits window n1 c.between (got ∷ c.after) in
      let own = begins_length _ _ (grown fits window n (sent ∷ (c.between ++ got ∷ c.after)) seat).own in
      let other = begins_length _ _ (grown fits window n3 c.after (facing seat)).other in
      let came = arrives n seat c.between (inv_network fits window narrow c.before) c.made in (
        subst (λ x. m ≤ length (peer_at x seat).own) (sym whole) (omega (arith, c.made)),
        subst (λ x. m ≤ length (peer_at x (facing seat)).other) (sym end) (omega arith),
      )

-- what holds at each seat across holds at each
at_each : (P : Seat → Type 0) → ((seat : Seat) → P (facing seat)) → (seat : Seat) → P seat
at_each P p Left = p Right
at_each P p Right = p Left

pub both_sure : BothSure
both_sure window small fits m ts narrow c seat =
    let there = λ (s : Seat). came fits window narrow small m ts s (c s) in
    omega (arith, (there seat).0, at_each (λ s. m ≤ length (peer_at (network fits window ts) s).other) (λ s. (there s).1) seat)
