use Rattle.std.proofs.Common.{◌≡◌, ◌+◌, sym, ap, ◌∙◌, subst, arith, w32, SFits, rules}
use Rattle.std.proofs.lemmas.Int.{to_z-of_z}
use Rattle.court.specs.Bounds.{Flying}
use Rattle.court.specs.Frame.{ball_moved, both_at_once}
use Rattle.court.specs.Cues.{cue_at_wall, cue_at_paddles}
use Rattle.court.proofs.Stays.{moved_in, met_in, flies_on}
use Rattle.court.proofs.ball.FlyingBall.step.Goals as goal

pub meet_paddles-requires-clause-flies : goal.meet_paddles-requires-clause-flies
meet_paddles-requires-clause-flies c =
    let fx : SFits w32 c.args.by_x = search rules in
    let fy : SFits w32 c.args.by_y = search rules in
    let s = c.args.self in
    let m : c.move_ball-moved.result.ball ≡ ball_moved c.args.by_x c.args.by_y s.heard.ball = simp to_z-of_z at c.move_ball-moved.ensures.ball in
    flies_on (s.steps + 1) 8 _ (omega arith) (subst (Flying (s.steps + 1)) (sym m) (moved_in s.steps s.heard.ball c.args.by_x c.args.by_y s.flies c.requires.x))

pub invariant_of-result : goal.invariant_of-result
invariant_of-result c =
    let fx : SFits w32 c.args.by_x = search rules in
    let fy : SFits w32 c.args.by_y = search rules in
    let s = c.args.self in
    let m : c.move_ball-moved.result.ball ≡ ball_moved c.args.by_x c.args.by_y s.heard.ball = simp to_z-of_z at c.move_ball-moved.ensures.ball in
    let h : Flying (s.steps + 1) c.move_ball-moved.result.ball = subst (Flying (s.steps + 1)) (sym m) (moved_in s.steps s.heard.ball c.args.by_x c.args.by_y s.flies c.requires.x) in
    record {
      flies = subst (Flying (s.steps + 1)) (sym c.meet_paddles.ensures.ball) (met_in s.steps c.args.left c.args.right s.heard.ball _ c.requires.left_half c.requires.right_half s.flies h);
      few = omega arith;
    }

pub returns-clause-ball : goal.returns-clause-ball
returns-clause-ball c =
    let fx : SFits w32 c.args.by_x = search rules in
    let fy : SFits w32 c.args.by_y = search rules in
    let s = c.args.self in
    let m : c.move_ball-moved.result.ball ≡ ball_moved c.args.by_x c.args.by_y s.heard.ball = simp to_z-of_z at c.move_ball-moved.ensures.ball in
    c.meet_paddles.ensures.ball ∙ ap (both_at_once c.args.left c.args.right s.heard.ball) m

pub returns-clause-cue : goal.returns-clause-cue
returns-clause-cue c =
    let fx : SFits w32 c.args.by_x = search rules in
    let fy : SFits w32 c.args.by_y = search rules in
    let s = c.args.self.heard in
    let l = c.args.left in
    let r = c.args.right in
    let moved = c.move_ball-moved.result in
    let m : moved.ball ≡ ball_moved c.args.by_x c.args.by_y s.ball = simp to_z-of_z at c.move_ball-moved.ensures.ball in
    let w : moved.cue ≡ cue_at_wall c.args.by_y s.ball s.cue = simp to_z-of_z at c.move_ball-moved.ensures.cue in
    c.meet_paddles.ensures.cue
    ∙ ap (λ b. cue_at_paddles l r b moved.cue) m
    ∙ ap (cue_at_paddles l r (ball_moved c.args.by_x c.args.by_y s.ball)) w
