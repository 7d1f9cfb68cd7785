use Rattle.std.proofs.Common.{[], sym, subst, rules}
use Rattle.peer.specs.Lent.{LongStates}
use Rattle.session.specs.Files.{FileOf}
use Rattle.session.specs.Rows.{After, memory}
use Rattle.session.proofs.Drawn.{enough, drawn_ok}
use Rattle.session.proofs.whole.play_session.Goals as goal

pub unwrap-requires : goal.unwrap-requires
unwrap-requires c =
    let (es, f) = c.in_ok-row.ensures.1 in
    let states = c.happen_all.new.states in
    let a : After c.args.seat c.args.window es (memory c.happen_all.new.p c.happen_all.new.inputs states) = c.happen_all.ensures.row c.args.seat c.args.window [] es c.in_ok-p.ensures.row (subst (FileOf es) (search rules) f) in
    let room = enough c.args.window _ _ _ c.in_ok-check_lent.ensures in
    let long : LongStates c.happen_all.new.p.window states = subst (λ w. LongStates w states) (sym a.window_is) a.roomy.states_long in
    drawn_ok _ _ _ _ c.draw.ensures.answer long room.1

pub returns-clause-row : goal.returns-clause-row
returns-clause-row c =
    λ es f. c.happen_all.ensures.row c.args.seat c.args.window [] es c.in_ok-p.ensures.row (subst (FileOf es) (search rules) f)

pub returns-clause-shown : goal.returns-clause-shown
returns-clause-shown c =
    λ es f. c.draw.ensures.row c.args.seat c.args.window es _ (c.happen_all.ensures.row c.args.seat c.args.window [] es c.in_ok-p.ensures.row (subst (FileOf es) (search rules) f)) (search rules)
