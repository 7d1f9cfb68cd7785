use Rattle.std.proofs.Common.{arith}
use Rattle.session.specs.Rows.{log_after, memory}
use Rattle.session.proofs.Stood.{status_stands}
use Rattle.session.proofs.calls.status.Goals as goal

pub returns-clause-stands : goal.returns-clause-stands
returns-clause-stands c =
    λ seat window log inputs a. status_stands seat window log (memory c.args.p.now inputs c.args.states.now) _ _ a c.in_ok-game.ensures.1 (omega (arith, c.confirmed.ensures))

pub returns-clause-row : goal.returns-clause-row
returns-clause-row c = λ seat window es inputs a. returns-clause-stands c seat window (log_after window es) inputs a
