use Rattle.network.proofs.OnePeer.{stays_sure}
use Rattle.network.proofs.statements.stays_sure.Goals as goal

pub returns : goal.returns
returns g c = stays_sure _
