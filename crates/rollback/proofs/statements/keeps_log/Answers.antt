use Rattle.rollback.proofs.Rowed.{keeps_log}
use Rattle.rollback.proofs.statements.keeps_log.Goals as goal

pub returns : goal.returns
returns g c = keeps_log g.G.SavedGame.saved
