use Rattle.two_seats.proofs.Promises.{two_both_sure}
use Rattle.two_seats.proofs.statements.both_sure.Goals as goal

pub returns : goal.returns
returns c = two_both_sure
