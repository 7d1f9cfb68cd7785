use Rattle.std.proofs.Common.{refl}
use Rattle.court.specs.Frame.{paddle_moved, step_count, step_length, along, ball_moved, after_steps, both_at_once, end_met, ends_met, ball_played_by, advanced_by}
use Rattle.court.specs.FormerRule.{one_after_the_other}
use Rattle.court.proofs.FormerRuleLemmas.{same_unless_both_met}
use Rattle.court.proofs.statements.both_paddles_look_at_once.Goals as goal

pub returns-clause-same_unless : goal.returns-clause-same_unless
returns-clause-same_unless c = same_unless_both_met

pub returns-clause-cases : goal.returns-clause-cases
unfolding paddle_moved step_count step_length along ball_moved after_steps both_at_once one_after_the_other end_met ends_met ball_played_by advanced_by
returns-clause-cases c = ((refl, refl), ((refl, refl), tt))
