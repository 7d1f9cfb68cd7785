use Rattle.std.proofs.Common.{◌≡◌, List, ℕ, length, sym, ap, ◌∙◌, arith, rules}
use Rattle.seats.specs.Peers.{least, others}
use Rattle.lanes.specs.Lanes.{log_in}
use Rattle.lanes.specs.Lent.{lane_counts}
use Rattle.lanes.proofs.Lanes.{lanes_few, others_few}
use Rattle.lanes.proofs.Lent.{length-lane_counts, counts_of}
use Rattle.lanes.proofs.numbers.Peer.fewest.Goals as goal

pub returns-clause-few : goal.returns-clause-few
returns-clause-few g c =
    let p = c.args.self.now in
    let many : length p.lanes ≡ g.row.SEATS = search rules in
    omega (arith, c.least_of_others.ensures, ap (λ (xs : List ℕ). least (others p.seat xs)) c.counts.ensures, others_few p.seat (lane_counts p) (omega (arith, length-lane_counts p many, p.here.0)) (lanes_few p.lanes))

pub returns-clause-value : goal.returns-clause-value
unfolding log_in
returns-clause-value g c = λ inputs room.
    let p = c.args.self.now in
    let many : length p.lanes ≡ g.row.SEATS = search rules in
    c.least_of_others.ensures ∙ ap (λ (xs : List ℕ). least (others p.seat xs)) (c.counts.ensures ∙ sym (counts_of p many inputs room))
