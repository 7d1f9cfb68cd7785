-- What is heard of the steps of a frame, one after the other. Assumes nothing.
use Rattle.std.proofs.Common.{◌≡◌, ℕ, suc, ◌+◌, sym, refl, ap, ◌∙◌, arith}
use Rattle.court.specs.declared.cue.Cue.{Cue}
use Rattle.court.specs.declared.cue.Cue.TheVariants.{Nothing}
use Rattle.court.specs.declared.state.Ball.{Ball}
use Rattle.court.specs.declared.state.Paddle.{Paddle}
use Rattle.court.specs.Frame.{step_count, ball_moved, both_at_once, after_steps}
use Rattle.court.specs.Cues.{cue_at_wall, cue_at_paddles, cue_at_step, cue_after_steps}
use Rattle.court.proofs.Steps.{length_all, along_all}

-- a frame of one step
pub one_heard : (l r : Paddle) (first : Ball) (n : ℕ) → step_count first ≡ n → n ≡ 1 → cue_at_paddles l r (ball_moved first.dx first.dy first) (cue_at_wall first.dy first Nothing) ≡ cue_after_steps l r first (step_count first)
unfolding after_steps cue_after_steps
one_heard l r first n e o =
    let one : step_count first ≡ 1 = e ∙ o in
    simp (one, length_all, along_all) refl

-- one step more
pub heard_more : (l r : Paddle) (first b : Ball) (before after : Cue) (i : ℕ) → b ≡ after_steps both_at_once l r first i → before ≡ cue_after_steps l r first i → after ≡ cue_at_step l r first i b before → after ≡ cue_after_steps l r first (i + 1)
unfolding cue_after_steps
heard_more l r first b before after i e f g =
    let next : i + 1 ≡ suc i = omega arith in
    g
    ∙ ap (λ t. cue_at_step l r first i t before) e
    ∙ ap (cue_at_step l r first i (after_steps both_at_once l r first i)) f
    ∙ sym (ap (cue_after_steps l r first) next)
