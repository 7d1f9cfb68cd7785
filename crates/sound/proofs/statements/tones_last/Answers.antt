use Rattle.sound.proofs.Lasting.{lasts, ends, stays_silent}
use Rattle.sound.proofs.statements.tones_last.Goals as goal

pub returns-clause-lasts : goal.returns-clause-lasts
returns-clause-lasts c = lasts

pub returns-clause-ends : goal.returns-clause-ends
returns-clause-ends c = ends

pub returns-clause-silent : goal.returns-clause-silent
returns-clause-silent c = stays_silent
