use Rattle.network.proofs.OnePeer.{guessed}
use Rattle.network.proofs.statements.guessed.Goals as goal

pub returns : goal.returns
returns g c = guessed _
