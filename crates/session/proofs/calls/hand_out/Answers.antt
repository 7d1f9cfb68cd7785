use Rattle.sound.specs.Sounding.{sounding}
use Rattle.session.proofs.Drawn.{handed_behind}
use Rattle.session.proofs.calls.hand_out.Goals as goal

pub returns-clause-behind : goal.returns-clause-behind
returns-clause-behind c = rw c.write_samples.ensures.samples (handed_behind (sounding c.in_ok-game.game.tone) c.args.sound.now _)
