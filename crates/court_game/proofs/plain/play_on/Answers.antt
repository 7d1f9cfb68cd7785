use Rattle.std.proofs.Common.{ap, ◌∙◌}
use Rattle.court.specs.Frame.{start}
use Rattle.game.specs.Plain.{plays}
use Rattle.game.proofs.Plays.{plays_append}
use Rattle.court_game.specs.Games.{court_game}
use Rattle.court_game.specs.Sounding.{SoundingCourt}
use Rattle.court_game.proofs.Tones.{court_is_court_game}
use Rattle.court_game.proofs.plain.play_on.Goals as goal

pub returns-clause-value : goal.returns-clause-value
returns-clause-value c = ap (λ (t : SoundingCourt). t.court) c.play_on.ensures.value ∙ court_is_court_game _ _ _

pub returns-clause-whole : goal.returns-clause-whole
returns-clause-whole c =
    λ xs ys n e.
    returns-clause-value c
    ∙ ap (λ s. plays court_game s c.args.left.now c.args.right.now) e
    ∙ plays_append court_game start xs ys c.args.left.now c.args.right.now n
