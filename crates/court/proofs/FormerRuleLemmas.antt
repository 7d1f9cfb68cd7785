-- Where a frame by the former step 4 is a frame today. Assumes nothing.
use Rattle.std.proofs.Common.{ℕ, ◌∙◌, zero, suc, ◌<◌, ◌≤◌, arith, ◌≡◌, Bool, true, false, ◌&&◌, ◌||◌, refl, ap}
use Rattle.court.specs.declared.state.Ball.{Ball}
use Rattle.court.specs.declared.state.Paddle.{Paddle}
use Rattle.court.specs.declared.state.Side.TheVariants.{Left}
use Rattle.court.specs.declared.state.State.{State}
use Rattle.court.specs.Frame.{meets, struck, step_count, step_moved, after_steps, paddles_moved, with_ball, ends_met, both_at_once, ball_played_by, advanced_by}
use Rattle.court.specs.FormerRule.{both_met, both_met_at, one_after_the_other, SameUnlessBothMet}

-- by which paddle meets the moved ball, and whether the right one meets what the left one made of it
rule_by : (l r : Paddle) (before moved : Ball) (t u v : Bool) → meets moved l ≡ t → meets moved r ≡ u → meets (struck Left l moved) r ≡ v →
    (t && (u || v)) ≡ false → both_at_once l r before moved ≡ one_after_the_other l r before moved
unfolding both_at_once one_after_the_other
rule_by l r before moved true true v e f g h = absurd (cc)
rule_by l r before moved true false true e f g h = absurd (cc)
rule_by l r before moved true false false e f g h = simp (e, f, g) refl
rule_by l r before moved false true v e f g h = simp (e, f) refl
rule_by l r before moved false false v e f g h = simp (e, f) refl

same_rule : (l r : Paddle) (before moved : Ball) → both_met l r moved ≡ false → both_at_once l r before moved ≡ one_after_the_other l r before moved
same_rule l r before moved h =
    rule_by l r before moved (meets moved l) (meets moved r) (meets (struck Left l moved) r) refl refl refl h

-- the ball after as many steps as the two rules were the same in
same_steps : (l r : Paddle) (first : Ball) (n : ℕ) → ((k : ℕ) → k < n → both_met l r (step_moved first k (after_steps both_at_once l r first k)) ≡ false) →
    (k : ℕ) → k ≤ n → after_steps both_at_once l r first k ≡ after_steps one_after_the_other l r first k
unfolding after_steps
same_steps l r first n h zero e = refl
same_steps l r first n h (suc k) e =
    same_rule l r (after_steps both_at_once l r first k) (step_moved first k (after_steps both_at_once l r first k)) (h k (omega arith))
    ∙ ap (λ b. one_after_the_other l r b (step_moved first k b)) (same_steps l r first n h k (omega arith))

same_ball : (s : State) → ((k : ℕ) → k < step_count s.ball → both_met_at s k ≡ false) → ball_played_by both_at_once s ≡ ball_played_by one_after_the_other s
unfolding ball_played_by
same_ball s h =
    ap (λ b. ends_met (with_ball b s)) (same_steps s.left s.right s.ball (step_count s.ball) h (step_count s.ball) (omega arith))

pub same_unless_both_met : SameUnlessBothMet
unfolding advanced_by
same_unless_both_met s a b h = rw (same_ball (paddles_moved s a b) h) refl
