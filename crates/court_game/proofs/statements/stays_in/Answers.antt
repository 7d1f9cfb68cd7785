use Rattle.court.specs.Frame.{start}
use Rattle.court.proofs.Stays.{start_in}
use Rattle.court_game.proofs.Stays.{plays_in}
use Rattle.court_game.proofs.statements.stays_in.Goals as goal

pub returns : goal.returns
returns c = plays_in start start_in
