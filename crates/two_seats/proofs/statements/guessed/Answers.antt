use Rattle.two_seats.proofs.Predicted.{two_guessed}
use Rattle.two_seats.proofs.statements.guessed.Goals as goal

pub returns : goal.returns
returns g c = two_guessed _
