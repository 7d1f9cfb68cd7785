use Rattle.network.proofs.Networks.{same_inputs}
use Rattle.network.proofs.statements.same_inputs.Goals as goal

pub returns : goal.returns
returns c = same_inputs
