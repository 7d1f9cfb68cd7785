use Rattle.std.proofs.Common.{◌≡◌, ℕ, ◌<◌, List, replicate, length, get_or, map, sym, ap, ◌∙◌, arith}
use Rattle.std.proofs.lemmas.List.{length-map, length-replicate, get_or-replicate}
use Rattle.seats.specs.Peers.{Log}
use Rattle.lanes.specs.declared.lane.Lane.{Lane}
use Rattle.lanes.specs.Lanes.{log_in}
use Rattle.lanes.proofs.Lanes.{no_rows}
use Rattle.lanes.proofs.Lent.{lane_known}
use Rattle.lanes.proofs.numbers.Peer.new.Goals as goal

pub returns-clause-new : goal.returns-clause-new
unfolding log_in
returns-clause-new g c = λ inputs.
    let n : ℕ = g.row.SEATS in
    let lane : Lane = c.new.result in
    let lanes : List Lane = replicate n lane in
    let len : length lanes ≡ n = length-replicate n lane in
    let counts : List ℕ = map (λ (l : Lane). l.known) lanes in
    let none : (j : ℕ) → j < n → get_or counts j 0 ≡ 0 = λ j h.
    sym (lane_known lanes j lane (omega (arith, len))) ∙ ap (λ (l : Lane). l.known) (get_or-replicate n j lane lane h) ∙ c.new.ensures in
    ap (λ (rows : List (List ℕ)). let to : Log = record { seat = c.args.seat; rows = rows; acked = replicate n 0 } in to)
    (no_rows c.args.seat counts (replicate n 0) inputs n (length-map lanes (λ (l : Lane). l.known) ∙ len) none)
