use Rattle.std.proofs.Common.{◌≡◌, true, false, ℤ, pos, ◌+ℤ◌, ◌-ℤ◌, neg_ℤ, ap, ◌∙◌, w32, SFits, rules}
use Rattle.std.proofs.lemmas.Int.{to_z-of_z}
use lib.Signed.{lt_z}
use Rattle.court.specs.Frame.{ball_moved, size}
use Rattle.court.specs.Cues.{cue_at_wall}
use Rattle.court.specs.declared.state.Ball.{Ball}
use Rattle.court.proofs.Signs.{sub_neg}
use Rattle.court.proofs.ball.move_ball.Goals as goal

pub returns-then-y-clause-ball : goal.returns-then-y-clause-ball
unfolding ball_moved
returns-then-y-clause-ball c =
    let fx : SFits w32 c.args.from.ball.x = search rules in
    let fy : SFits w32 c.args.from.ball.y = search rules in
    let fdx : SFits w32 c.args.from.ball.dx = search rules in
    let fdy : SFits w32 c.args.from.ball.dy = search rules in
    let fmx : SFits w32 c.args.by_x = search rules in
    let fmy : SFits w32 c.args.by_y = search rules in
    let fsx : SFits w32 (c.args.from.ball.x +ℤ c.args.by_x) = search rules in
    let fsy : SFits w32 (c.args.from.ball.y +ℤ c.args.by_y) = search rules in
    let fr : SFits w32 c.abs.result = search rules in
    let t : lt_z (c.args.from.ball.y +ℤ c.args.by_y) (pos 512) ≡ true = simp to_z-of_z at c.if-y.true in
    let e : c.abs.result ≡ size c.args.from.ball.dy = simp to_z-of_z at c.abs.ensures.value in
    let mk : ℤ → Ball = λ d. record { x = c.args.from.ball.x +ℤ c.args.by_x; y = pos 512; dx = c.args.from.ball.dx; dy = d } in
    simp (to_z-of_z, t) (ap mk e)

pub returns-then-y-2-clause-ball : goal.returns-then-y-2-clause-ball
unfolding ball_moved
returns-then-y-2-clause-ball c =
    let fx : SFits w32 c.args.from.ball.x = search rules in
    let fy : SFits w32 c.args.from.ball.y = search rules in
    let fdx : SFits w32 c.args.from.ball.dx = search rules in
    let fdy : SFits w32 c.args.from.ball.dy = search rules in
    let fmx : SFits w32 c.args.by_x = search rules in
    let fmy : SFits w32 c.args.by_y = search rules in
    let fsx : SFits w32 (c.args.from.ball.x +ℤ c.args.by_x) = search rules in
    let fsy : SFits w32 (c.args.from.ball.y +ℤ c.args.by_y) = search rules in
    let fr : SFits w32 c.abs-then-y-2.result = search rules in
    let fn : SFits w32 (pos 0 -ℤ c.abs-then-y-2.result) = search rules in
    let t : lt_z (c.args.from.ball.y +ℤ c.args.by_y) (pos 512) ≡ false = simp to_z-of_z at c.if-y.false in
    let u : lt_z (pos 30208) (c.args.from.ball.y +ℤ c.args.by_y) ≡ true = simp to_z-of_z at c.if-y-2.true in
    let e : c.abs-then-y-2.result ≡ size c.args.from.ball.dy = simp to_z-of_z at c.abs-then-y-2.ensures.value in
    let n : pos 0 -ℤ c.abs-then-y-2.result ≡ neg_ℤ (size c.args.from.ball.dy) = sub_neg c.abs-then-y-2.result ∙ ap neg_ℤ e in
    let mk : ℤ → Ball = λ d. record { x = c.args.from.ball.x +ℤ c.args.by_x; y = pos 30208; dx = c.args.from.ball.dx; dy = d } in
    simp (to_z-of_z, t, u) (ap mk n)

pub returns-else-y-2-clause-ball : goal.returns-else-y-2-clause-ball
unfolding ball_moved
returns-else-y-2-clause-ball c =
    let fx : SFits w32 c.args.from.ball.x = search rules in
    let fy : SFits w32 c.args.from.ball.y = search rules in
    let fdx : SFits w32 c.args.from.ball.dx = search rules in
    let fdy : SFits w32 c.args.from.ball.dy = search rules in
    let fmx : SFits w32 c.args.by_x = search rules in
    let fmy : SFits w32 c.args.by_y = search rules in
    let fsx : SFits w32 (c.args.from.ball.x +ℤ c.args.by_x) = search rules in
    let fsy : SFits w32 (c.args.from.ball.y +ℤ c.args.by_y) = search rules in
    let t : lt_z (c.args.from.ball.y +ℤ c.args.by_y) (pos 512) ≡ false = simp to_z-of_z at c.if-y.false in
    let u : lt_z (pos 30208) (c.args.from.ball.y +ℤ c.args.by_y) ≡ false = simp to_z-of_z at c.if-y-2.false in
    simp (to_z-of_z, t, u)

pub returns-then-y-clause-cue : goal.returns-then-y-clause-cue
unfolding cue_at_wall
returns-then-y-clause-cue c =
    let fy : SFits w32 c.args.from.ball.y = search rules in
    let fmy : SFits w32 c.args.by_y = search rules in
    let fsy : SFits w32 (c.args.from.ball.y +ℤ c.args.by_y) = search rules in
    let t : lt_z (c.args.from.ball.y +ℤ c.args.by_y) (pos 512) ≡ true = simp to_z-of_z at c.if-y.true in
    simp t

pub returns-then-y-2-clause-cue : goal.returns-then-y-2-clause-cue
unfolding cue_at_wall
returns-then-y-2-clause-cue c =
    let fy : SFits w32 c.args.from.ball.y = search rules in
    let fmy : SFits w32 c.args.by_y = search rules in
    let fsy : SFits w32 (c.args.from.ball.y +ℤ c.args.by_y) = search rules in
    let t : lt_z (c.args.from.ball.y +ℤ c.args.by_y) (pos 512) ≡ false = simp to_z-of_z at c.if-y.false in
    let u : lt_z (pos 30208) (c.args.from.ball.y +ℤ c.args.by_y) ≡ true = simp to_z-of_z at c.if-y-2.true in
    simp (t, u)

pub returns-else-y-2-clause-cue : goal.returns-else-y-2-clause-cue
unfolding cue_at_wall
returns-else-y-2-clause-cue c =
    let fy : SFits w32 c.args.from.ball.y = search rules in
    let fmy : SFits w32 c.args.by_y = search rules in
    let fsy : SFits w32 (c.args.from.ball.y +ℤ c.args.by_y) = search rules in
    let t : lt_z (c.args.from.ball.y +ℤ c.args.by_y) (pos 512) ≡ false = simp to_z-of_z at c.if-y.false in
    let u : lt_z (pos 30208) (c.args.from.ball.y +ℤ c.args.by_y) ≡ false = simp to_z-of_z at c.if-y-2.false in
    simp (t, u)
