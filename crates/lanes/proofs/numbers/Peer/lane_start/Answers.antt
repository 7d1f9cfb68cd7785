use Rattle.std.proofs.Common.{arith}
use Rattle.std.proofs.lemmas.Bool.Decides.{nat_tests}
use Rattle.lanes.specs.Lanes.{place}
use Rattle.lanes.proofs.numbers.Peer.lane_start.Goals as goal

pub returns-clause-start : goal.returns-clause-start
unfolding place
returns-clause-start g c = grind (arith, nat_tests)
