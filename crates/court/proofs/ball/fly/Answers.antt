use Rattle.std.proofs.Common.{◌≡◌, ℕ, suc, ◌+◌, ◌*◌, ◌≤◌, pos, neg_ℤ, sym, refl, ap, ◌∙◌, subst, arith, w32, SFits, rules}
use Rattle.std.specs.Prelude.{unsigned_abs}
use Rattle.std.proofs.lemmas.Int.{ints, to_z-of_z}
use Rattle.court.specs.declared.state.Ball.{Ball}
use Rattle.court.specs.declared.state.Paddle.{Paddle}
use Rattle.court.specs.declared.state.Side.TheVariants.{Left, Right}
use Rattle.court.specs.Bounds.{Flying, BallIn, InHalf, Within}
use Rattle.court.specs.Frame.{step_count, step_moved, both_at_once, after_steps}
use Rattle.court.proofs.Steps.{steps_enough, steps_few, one_step}
use Rattle.court.specs.Cues.{cue_after_steps}
use Rattle.court.proofs.Stays.{steps_in}
use Rattle.court.proofs.Heard.{one_heard, heard_more}
use Rattle.court.proofs.ball.fly.Goals as goal

-- a frame of one step has a velocity that is a step
slow : (first : Ball) (n : ℕ) → n ≡ step_count first → n ≡ 1 → Within (neg_ℤ (pos 768)) (pos 768) first.dx × Within (neg_ℤ (pos 768)) (pos 768) first.dy
slow first n e o =
    let one : step_count first ≡ 1 = sym e ∙ o in
    let x : unsigned_abs first.dx ≤ 768 * step_count first = (steps_enough first).0 in
    let y : unsigned_abs first.dy ≤ 768 * step_count first = (steps_enough first).1 in
    ((omega (arith, ints), omega (arith, ints)), (omega (arith, ints), omega (arith, ints)))

-- a ball of the court has few steps
few : (first : Ball) → BallIn first → step_count first ≤ 8
few first h = steps_few first (omega (arith, ints, h.dx)) (omega (arith, ints, h.dy))

flies : (l r : Paddle) (first b : Ball) (steps i : ℕ) → InHalf Left l → InHalf Right r → BallIn first → b ≡ after_steps both_at_once l r first i → steps ≡ i → Flying steps b
flies l r first b steps i hl hr h e f =
    subst (λ n. Flying n b) (sym f) (subst (Flying i) (sym e) (steps_in l r first hl hr h i))

one_more : (l r : Paddle) (first b c : Ball) (i : ℕ) → b ≡ after_steps both_at_once l r first i → c ≡ both_at_once l r b (step_moved first i b) → c ≡ after_steps both_at_once l r first (i + 1)
unfolding after_steps
one_more l r first b c i e f =
    let next : i + 1 ≡ suc i = omega arith in
    f ∙ ap (λ t. both_at_once l r t (step_moved first i t)) e ∙ sym (ap (after_steps both_at_once l r first) next)

pub step-requires-clause-x : goal.step-requires-clause-x
step-requires-clause-x c =
    let fx : SFits w32 c.args.first.dx = search rules in
    simp to_z-of_z (slow c.args.first _ c.count_steps-count.ensures c.if-count-eq1.true).0

pub step-requires-clause-y : goal.step-requires-clause-y
step-requires-clause-y c =
    let fy : SFits w32 c.args.first.dy = search rules in
    simp to_z-of_z (slow c.args.first _ c.count_steps-count.ensures c.if-count-eq1.true).1

pub returns-then-count-eq1-clause-ball : goal.returns-then-count-eq1-clause-ball
returns-then-count-eq1-clause-ball c =
    let fx : SFits w32 c.args.first.dx = search rules in
    let fy : SFits w32 c.args.first.dy = search rules in
    (simp to_z-of_z at c.step.ensures.ball) ∙ one_step c.args.left c.args.right c.args.first _ (sym c.count_steps-count.ensures) c.if-count-eq1.true

pub returns-then-count-eq1-clause-cue : goal.returns-then-count-eq1-clause-cue
returns-then-count-eq1-clause-cue c =
    let fx : SFits w32 c.args.first.dx = search rules in
    let fy : SFits w32 c.args.first.dy = search rules in
    (simp to_z-of_z at c.step.ensures.cue) ∙ one_heard c.args.left c.args.right c.args.first _ (sym c.count_steps-count.ensures) c.if-count-eq1.true

pub loop-i-init : goal.loop-i-init
unfolding after_steps cue_after_steps
loop-i-init c = record { ball = refl; cue = refl; steps = refl }

pub invariant_of-flying-in-loop-i : goal.invariant_of-flying-in-loop-i
invariant_of-flying-in-loop-i c =
    let n : c.count_steps-count.result ≡ step_count c.args.first = c.count_steps-count.ensures in
    let m : step_count c.args.first ≤ 8 = few c.args.first c.requires.ball in
    record {
      flies = flies c.args.left c.args.right c.args.first c.loop-i.flying.0.ball c.loop-i.flying.1.0 c.loop-i.i c.requires.left_half c.requires.right_half c.requires.ball c.loop-i.invariant.ball c.loop-i.invariant.steps;
      few = omega arith;
    }

pub step_of-flying-requires-clause-few : goal.step_of-flying-requires-clause-few
step_of-flying-requires-clause-few c =
    let n : c.count_steps-count.result ≡ step_count c.args.first = c.count_steps-count.ensures in
    let m : step_count c.args.first ≤ 8 = few c.args.first c.requires.ball in
    omega arith

pub loop-i-preserved : goal.loop-i-preserved
loop-i-preserved c =
    record {
      ball = one_more c.args.left c.args.right c.args.first c.loop-i.flying.0.ball c.step_of-flying.result.heard.ball c.loop-i.i c.loop-i.invariant.ball c.step_of-flying.ensures.ball;
      cue = heard_more c.args.left c.args.right c.args.first _ _ _ c.loop-i.i c.loop-i.invariant.ball c.loop-i.invariant.cue c.step_of-flying.ensures.cue;
      steps = c.step_of-flying.ensures.steps ∙ ap (λ n. n + 1) c.loop-i.invariant.steps;
    }

pub returns : goal.returns
returns c =
    let done : c.loop-i.i ≡ step_count c.args.first = omega arith in
    record {
      ball = c.loop-i.invariant.ball ∙ ap (after_steps both_at_once c.args.left c.args.right c.args.first) done;
      cue = c.loop-i.invariant.cue ∙ ap (cue_after_steps c.args.left c.args.right c.args.first) done;
    }
