use Rattle.session.proofs.Filed.{one_row, one_fault}
use Rattle.session.proofs.statements.one_row.Goals as goal

pub returns : goal.returns
returns c = record { row = one_row; fault = one_fault }
