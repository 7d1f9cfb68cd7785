use Rattle.sound.proofs.Sums.{sums_to_zero}
use Rattle.sound.proofs.Writes.{in_place, whole}
use Rattle.sound.proofs.statements.samples_add_up.Goals as goal

pub returns-clause-in_place : goal.returns-clause-in_place
returns-clause-in_place c = in_place

pub returns-clause-whole : goal.returns-clause-whole
returns-clause-whole c = whole

pub returns-clause-zero : goal.returns-clause-zero
returns-clause-zero c = sums_to_zero
