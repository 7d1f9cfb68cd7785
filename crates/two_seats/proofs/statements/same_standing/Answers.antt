use Rattle.two_seats.proofs.Peers.{same_standing}
use Rattle.two_seats.proofs.statements.same_standing.Goals as goal

pub returns : goal.returns
returns g c = same_standing _
