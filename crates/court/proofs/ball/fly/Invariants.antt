use Rattle.std.proofs.Common.{◌≡◌}
use Rattle.court.specs.Frame.{both_at_once, after_steps}
use Rattle.court.specs.Cues.{cue_after_steps}
use Rattle.court.proofs.ball.fly.Given as goal

abbrev pub invariant-loop-i : goal.invariant-loop-i
invariant-loop-i l =
    record {
      ball : l.flying.0.ball ≡ after_steps both_at_once l.left l.right l.first l.i;
      cue : l.flying.0.cue ≡ cue_after_steps l.left l.right l.first l.i;
      steps : l.flying.1.0 ≡ l.i;
    }
