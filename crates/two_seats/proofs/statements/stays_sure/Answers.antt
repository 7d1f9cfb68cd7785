use Rattle.two_seats.proofs.Promises.{two_stays_sure}
use Rattle.two_seats.proofs.statements.stays_sure.Goals as goal

pub returns : goal.returns
returns g c = two_stays_sure _
