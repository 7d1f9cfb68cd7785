-- What can be heard of a frame: the last thing that happened in it, in the order in which a frame
-- goes. Assumes nothing: these are definitions.
use Rattle.std.specs.Prelude.{ℕ, zero, suc, Bool, if◌then◌else◌, ◌||◌, ℤ, ◌+ℤ◌, ◌-ℤ◌, ◌==◌, unsigned_abs}
use Rattle.std.specs.Int.Signed.{lt_z}
use Rattle.court.specs.declared.cue.Cue.{Cue}
use Rattle.court.specs.declared.cue.Cue.TheVariants.{Nothing, Paddle, Wall, Point}
use Rattle.court.specs.declared.state.Ball.{Ball}
use Rattle.court.specs.declared.state.Paddle as paddle
use Rattle.court.specs.declared.state.State.{State}
use Rattle.court.specs.Frame.{ball_half, court_height, court_width, along, meets, both_at_once, step_count, step_length, step_moved, after_steps, in_goal, paddles_moved, over}

-- step 3 takes the ball beyond the upper or the lower wall, where it turns
abbrev pub beyond_wall : ℤ → Ball → Bool
beyond_wall by_y b = lt_z (b.y +ℤ by_y) ball_half || lt_z (court_height -ℤ ball_half) (b.y +ℤ by_y)

-- what was heard so far, and then step 3
unfoldable pub cue_at_wall : ℤ → Ball → Cue → Cue
cue_at_wall by_y b before = if beyond_wall by_y b then Wall else before

-- and then step 4, by the ball as step 3 left it: one paddle met it, or both did
unfoldable pub cue_at_paddles : paddle.Paddle → paddle.Paddle → Ball → Cue → Cue
cue_at_paddles l r moved before = if meets moved l || meets moved r then Paddle else before

-- and then step 5: past an end the ball is in the goal, or turns there
unfoldable pub cue_at_ends : Ball → Cue → Cue
cue_at_ends b before =
    if lt_z b.x ball_half || lt_z (court_width -ℤ ball_half) b.x
    then (if in_goal b.y then Point else Wall) else before

-- how far step i of a frame at whose beginning the ball was `first` goes in y
abbrev pub step_y : Ball → ℕ → Ball → ℤ
step_y first i b = along b.dy (step_length (unsigned_abs first.dy) (step_count first) i)

-- what was heard before step i, and then in it
abbrev pub cue_at_step : paddle.Paddle → paddle.Paddle → Ball → ℕ → Ball → Cue → Cue
cue_at_step l r first i b before =
    cue_at_paddles l r (step_moved first i b) (cue_at_wall (step_y first i b) b before)

-- what was heard in the first k steps of a frame
unfoldable pub cue_after_steps : paddle.Paddle → paddle.Paddle → Ball → ℕ → Cue
cue_after_steps l r first zero = Nothing
cue_after_steps l r first (suc k) =
    cue_at_step l r first k (after_steps both_at_once l r first k) (cue_after_steps l r first k)

-- what can be heard of the ball's steps and the ends
unfoldable pub ball_cue : State → Cue
ball_cue s =
    cue_at_ends (after_steps both_at_once s.left s.right s.ball (step_count s.ball))
    (cue_after_steps s.left s.right s.ball (step_count s.ball))

-- the cue of a frame: nothing while the ball waits, and once the game is over
unfoldable pub cue_of : State → ℕ → ℕ → Cue
cue_of s a b =
    if over s then Nothing else (if s.wait == 0 then ball_cue (paddles_moved s a b) else Nothing)
