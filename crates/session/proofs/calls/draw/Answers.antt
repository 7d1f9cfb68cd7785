use Rattle.std.proofs.Common.{◌++◌, drop, ap, ◌∙◌}
use Rattle.picture.specs.Picture.{picture_of}
use Rattle.session.specs.Rows.{log_after, memory}
use Rattle.session.proofs.Courts.{stands_court}
use Rattle.session.proofs.Drawn.{drawn_behind, when_taken}
use Rattle.session.proofs.calls.draw.Goals as goal

pub returns-clause-behind : goal.returns-clause-behind
returns-clause-behind c = rw c.draw.ensures.picture (drawn_behind c.in_ok-game.game.court.state c.args.picture.now _)

pub returns-clause-stands : goal.returns-clause-stands
returns-clause-stands c =
    λ seat window log inputs a ok.
    when_taken _ _ _ _ _ _ c.in_ok-draw.ensures.value c.in_ok-draw.ensures.picture
    ∙ ap (λ s. picture_of s ++ drop 19200 c.args.picture.now) (stands_court seat window log (memory c.args.p.now inputs c.args.states.now) _ a c.in_ok-game.ensures.1)

pub returns-clause-row : goal.returns-clause-row
returns-clause-row c = λ seat window es inputs a ok. returns-clause-stands c seat window (log_after window es) inputs a ok
