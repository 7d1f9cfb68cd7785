use Rattle.session.specs.Rows.{memory}
use Rattle.session.proofs.Rowed.{after_none}
use Rattle.session.proofs.calls.begin.Goals as goal

pub returns-clause-row : goal.returns-clause-row
returns-clause-row c =
    after_none c.args.seat c.args.window (memory c.in_ok-begin.field-0 c.args.inputs.now c.begin.new.states) c.in_ok-begin.ensures.begun
