use Rattle.rollback.proofs.Rowed.{same_shown}
use Rattle.rollback.proofs.statements.same_shown.Goals as goal

pub returns : goal.returns
returns g c = same_shown g.G.SavedGame.saved
