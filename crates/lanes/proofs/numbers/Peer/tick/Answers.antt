use Rattle.std.proofs.Common.{◌≡◌, ◌<◌, length, get_or, arith, rules}
use Rattle.std.proofs.lemmas.Bool.Decides.{nat_tests}
use Rattle.lanes.specs.Lent.{lane_counts}
use Rattle.lanes.proofs.Lent.{frames_of}
use Rattle.lanes.proofs.numbers.Peer.tick.Goals as goal

pub push_own-requires : goal.push_own-requires
push_own-requires g c =
    let p = c.args.self.now in
    let many : length p.lanes ≡ g.row.SEATS = search rules in
    let may = c.may_play-played.ensures c.args.inputs.now c.requires in
    let known = frames_of p many c.args.inputs.now c.requires in
    let room : get_or (lane_counts p) p.seat 0 < 1000000 = grind (arith, nat_tests, may, known, c.if-played.true) in
    (search rules, (c.requires, room))
