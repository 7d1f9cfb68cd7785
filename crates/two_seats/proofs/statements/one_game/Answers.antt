use Rattle.two_seats.proofs.Promises.{two_one_game}
use Rattle.two_seats.proofs.statements.one_game.Goals as goal

pub returns : goal.returns
returns g c = two_one_game _
