use Rattle.std.proofs.Common.{◌≡◌, length, ap, arith, rules}
use Rattle.seats.specs.Peers.{least}
use Rattle.seats.proofs.Least.{least_le}
use Rattle.lanes.specs.Lent.{lane_counts}
use Rattle.lanes.proofs.Lent.{length-lane_counts, counts_of, frames_of}
use Rattle.lanes.proofs.numbers.Peer.confirmed.Goals as goal

pub returns : goal.returns
returns g c = λ inputs room.
    let p = c.args.self.now in
    let many : length p.lanes ≡ g.row.SEATS = search rules in
    omega (
      arith,
      c.least_of.ensures,
      ap least c.counts.ensures,
      ap least (counts_of p many inputs room),
      frames_of p many inputs room,
      least_le (lane_counts p) p.seat (omega (arith, length-lane_counts p many, p.here.0)),
    )
