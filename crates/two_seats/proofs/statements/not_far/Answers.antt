use Rattle.two_seats.proofs.Promises.{two_not_far}
use Rattle.two_seats.proofs.statements.not_far.Goals as goal

pub returns : goal.returns
returns c = two_not_far
