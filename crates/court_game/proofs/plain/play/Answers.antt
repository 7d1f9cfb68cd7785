use Rattle.std.proofs.Common.{ap, ◌∙◌}
use Rattle.court_game.specs.Sounding.{SoundingCourt, sounding_start}
use Rattle.court_game.proofs.Tones.{court_is_court_game}
use Rattle.court_game.proofs.plain.play.Goals as goal

pub returns-clause-value : goal.returns-clause-value
returns-clause-value c = ap (λ (t : SoundingCourt). t.court) c.play.ensures ∙ court_is_court_game sounding_start _ _
