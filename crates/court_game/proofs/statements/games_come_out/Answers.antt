use Rattle.std.proofs.Common.{refl}
use Rattle.court.specs.Frame.{paddle_moved, step_count, step_length, along, ball_moved, after_steps, both_at_once, end_met, ends_met, ball_played_by, advanced_by, start}
use Rattle.game.specs.Plain.{plays}
use Rattle.court_game.proofs.statements.games_come_out.Goals as goal

pub returns : goal.returns
unfolding paddle_moved step_count step_length along ball_moved after_steps both_at_once end_met ends_met ball_played_by advanced_by start plays
returns c = (refl, (refl, (refl, (refl, (refl, (refl, tt))))))
