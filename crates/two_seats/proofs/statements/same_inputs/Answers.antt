use Rattle.two_seats.proofs.Promises.{two_same_inputs}
use Rattle.two_seats.proofs.statements.same_inputs.Goals as goal

pub returns : goal.returns
returns c = two_same_inputs
