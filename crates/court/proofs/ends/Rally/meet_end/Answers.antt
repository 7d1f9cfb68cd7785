use Rattle.std.proofs.Common.{◌≡◌, false, sym, ap, w32, SFits, rules}
use Rattle.std.proofs.lemmas.Int.{to_z-of_z}
use Rattle.court.specs.Frame.{in_goal, end_met, with_ball}
use Rattle.court.proofs.ends.Rally.meet_end.Goals as goal

pub returns-else-is_goal-clause-state : goal.returns-else-is_goal-clause-state
unfolding end_met
returns-else-is_goal-clause-state c =
    let s = c.args.self.state in
    let fy : SFits w32 s.ball.y = search rules in
    let g : in_goal s.ball.y ≡ false = sym (simp to_z-of_z at c.if-is_goal.ensures) in
    simp g (ap (λ b. with_ball b s) c.turn.ensures)
