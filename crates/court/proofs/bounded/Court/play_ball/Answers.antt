use Rattle.std.proofs.Common.{◌≡◌, ◌<◌, sym, ap, ◌∙◌, subst}
use Rattle.court.specs.declared.state.Ball.{Ball}
use Rattle.court.specs.declared.state.State.{State}
use Rattle.court.specs.Bounds.{Flying, InCourt, InPlay}
use Rattle.court.specs.Frame.{step_count, after_steps, both_at_once, with_ball, ends_met, ball_played_by}
use Rattle.court.specs.Cues.{cue_at_ends, ball_cue}
use Rattle.court.proofs.Stays.{flown_in, ends_in, in_play}
use Rattle.court.proofs.bounded.Court.play_ball.Goals as goal

-- the state after all steps
flown_in_play : (s : State) (b : Ball) → InCourt s → s.score.left < 9 → s.score.right < 9 → b ≡ after_steps both_at_once s.left s.right s.ball (step_count s.ball) → InPlay (with_ball b s)
flown_in_play s b h l r e = in_play b s (subst (Flying 8) (sym e) (flown_in s h)) h l r

pub invariant_of-rally : goal.invariant_of-rally
invariant_of-rally c =
    record { in_play = flown_in_play c.args.self.state c.fly-flown.result.ball c.args.self.inside c.requires.0 c.requires.1 c.fly-flown.ensures.ball }

pub invariant_of-result : goal.invariant_of-result
invariant_of-result c =
    record { inside = subst InCourt (sym c.meet_ends-ended.ensures.state) (ends_in _ (flown_in_play c.args.self.state c.fly-flown.result.ball c.args.self.inside c.requires.0 c.requires.1 c.fly-flown.ensures.ball)) }

pub returns-clause-value : goal.returns-clause-value
unfolding ball_played_by
returns-clause-value c =
    c.meet_ends-ended.ensures.state ∙ ap (λ b. ends_met (with_ball b c.args.self.state)) c.fly-flown.ensures.ball

pub returns-clause-cue : goal.returns-clause-cue
unfolding ball_cue
returns-clause-cue c =
    let s = c.args.self.state in
    c.meet_ends-ended.ensures.cue
    ∙ ap (λ b. cue_at_ends b c.fly-flown.result.cue) c.fly-flown.ensures.ball
    ∙ ap (cue_at_ends (after_steps both_at_once s.left s.right s.ball (step_count s.ball))) c.fly-flown.ensures.cue
