use Rattle.two_seats.proofs.Promises.{two_peers_run}
use Rattle.two_seats.proofs.statements.peers_run.Goals as goal

pub returns : goal.returns
returns c = two_peers_run
