use Rattle.two_seats.proofs.Promises.{two_none_refused}
use Rattle.two_seats.proofs.statements.none_refused.Goals as goal

pub returns : goal.returns
returns c = two_none_refused
