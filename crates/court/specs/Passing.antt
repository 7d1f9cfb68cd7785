-- Where ball and paddles are at every step of a frame, and what it is that no ball passes through
-- a paddle. Assumes nothing: these are definitions, and statements that are proved in proofs/.
use Rattle.std.specs.Prelude.{◌≡◌, ℕ, zero, suc, ◌+◌, ◌≤◌, Bool, true, false, if◌then◌else◌, ◌||◌, List, [], ◌∷◌, ◌++◌, ℤ, pos, ◌+ℤ◌, ◌-ℤ◌, neg_ℤ, ◌≤ℤ◌, ◌<ℤ◌, ◌==◌, ◌⊎◌, IsTrue, unsigned_abs}
use Rattle.std.specs.Int.Signed.{lt_z}
use Rattle.court.specs.declared.state.Ball.{Ball}
use Rattle.court.specs.declared.state.Paddle.{Paddle}
use Rattle.court.specs.declared.state.State.{State}
use Rattle.court.specs.Frame.{size, paddle_half_x, paddle_half_y, paddle_speed, ball_half, court_width, longest_step, ball_moved, meets, both_at_once, step_count, step_length, step_moved, after_steps, with_ball, ends_met, paddles_moved, over, advanced}

-- ball and paddles at one moment of a game: after a step of a frame, after the ends, or after a
-- frame in which the ball waits; which paddles met the ball in that step, and whether an end or a
-- serve put it where it is
pub record Moment : Type 0 where
  pub ball : Ball
  pub left : Paddle
  pub right : Paddle
  pub by_left : Bool
  pub by_right : Bool
  pub placed : Bool

-- a moment in which no paddle met the ball, and no end or serve put it anywhere
abbrev pub untouched : State → Moment
untouched s =
    record {
      ball = s.ball;
      left = s.left;
      right = s.right;
      by_left = false;
      by_right = false;
      placed = false;
    }

-- after the step behind k others, of a state whose paddles have moved in this frame
abbrev pub step_moment : State → ℕ → Moment
step_moment s k =
    let moved : Ball = step_moved s.ball k (after_steps both_at_once s.left s.right s.ball k) in
    record {
      ball = after_steps both_at_once s.left s.right s.ball (k + 1);
      left = s.left;
      right = s.right;
      by_left = meets moved s.left;
      by_right = meets moved s.right;
      placed = false;
    }

-- after each of the first k steps
unfoldable pub step_moments : State → ℕ → List Moment
step_moments s zero = []
step_moments s (suc k) = step_moments s k ++ (step_moment s k ∷ [])

-- whether a ball is past an end, where step 5 puts it elsewhere
abbrev pub past_end : Ball → Bool
past_end b = lt_z b.x ball_half || lt_z (court_width -ℤ ball_half) b.x

-- after the ends, where the ball is past one
abbrev pub end_moments : State → List Moment
end_moments s =
    let flown : Ball = after_steps both_at_once s.left s.right s.ball (step_count s.ball) in
    if past_end flown
    then (record (untouched (ends_met (with_ball flown s))) { placed = true } ∷ [])
    else []

-- the moments of a frame; none once the game is over
unfoldable pub frame_moments : State → ℕ → ℕ → List Moment
frame_moments s a b =
    if over s then []
    else (if s.wait == 0
    then step_moments (paddles_moved s a b) (step_count s.ball) ++ end_moments (paddles_moved s a b)
    else (untouched (paddles_moved s a b) ∷ []))

-- ---- what is promised

-- the ball's middle is between the ends of the paddle
abbrev pub BetweenEnds : Ball → Paddle → Type 0
BetweenEnds b p = size (b.y -ℤ p.y) <ℤ paddle_half_y

-- the ball's middle gets from one side of a paddle's middle, or from right at it, to the other side
abbrev pub ChangesSide : Ball → Paddle → Ball → Paddle → Type 0
ChangesSide b p c q = ((b.x ≤ℤ p.x) × (q.x <ℤ c.x)) ⊎ ((p.x ≤ℤ b.x) × (c.x <ℤ q.x))

-- where, from one moment to another, the ball gets to the other side of a paddle, between its ends
-- at both, that paddle met it in the step to the second one, or an end or a serve put it there
abbrev pub PassesNot : Moment → Paddle → Moment → Paddle → Bool → Type 0
PassesNot m p n q met =
    ChangesSide m.ball p n.ball q → BetweenEnds m.ball p → BetweenEnds n.ball q →
    IsTrue (met || n.placed)

-- neither of the two paddles
abbrev pub NonePassed : Moment → Moment → Type 0
NonePassed m n = PassesNot m m.left n n.left n.by_left × PassesNot m m.right n n.right n.by_right

-- of each moment of a row and the one that follows it
unfoldable pub NonePassedAlong : Moment → List Moment → Type 0
NonePassedAlong m [] = Unit
NonePassedAlong m (n ∷ ns) = NonePassed m n × NonePassedAlong n ns

-- a moment is that of a state: ball and paddles are where that state has them
pub record IsMomentOf (s : State) (m : Moment) : Type 0 where
  pub ball : m.ball ≡ s.ball
  pub left : m.left ≡ s.left
  pub right : m.right ≡ s.right

-- the last moment of a row, or the one before it where the row is empty
unfoldable pub last_moment : Moment → List Moment → Moment
last_moment m [] = m
last_moment m (n ∷ ns) = last_moment n ns

-- how far from a paddle's middle in x it meets a ball, on each side
abbrev pub reach_x : ℤ
reach_x = paddle_half_x +ℤ ball_half

-- no step is longer than the longest; with a paddle's move it is shorter than a paddle's reach on
-- both sides in x
pub record StepsAreShort : Type 0 where
  pub x : (b : Ball) (i : ℕ) → step_length (unsigned_abs b.dx) (step_count b) i ≤ longest_step
  pub y : (b : Ball) (i : ℕ) → step_length (unsigned_abs b.dy) (step_count b) i ≤ longest_step
  pub both : (pos longest_step +ℤ paddle_speed) <ℤ (reach_x +ℤ reach_x)

-- ---- one example

-- the moment after a single step, as long as the ball's velocity, of a ball in play
abbrev pub after_one_step : State → Moment
after_one_step s =
    let moved : Ball = ball_moved s.ball.dx s.ball.dy s.ball in
    record {
      ball = both_at_once s.left s.right s.ball moved;
      left = s.left;
      right = s.right;
      by_left = meets moved s.left;
      by_right = meets moved s.right;
      placed = false;
    }

-- a ball at top speed, on its way to the right paddle
abbrev pub fast_ball : State
fast_ball =
    record {
      ball = record { x = pos 27000; y = pos 15360; dx = pos 6144; dy = pos 0 };
      left = record { x = pos 2048; y = pos 15360 };
      right = record { x = pos 30000; y = pos 15360 };
      score = record { left = 0; right = 0 };
      wait = 0;
    }

-- in one step it would pass through the paddle; in the steps of a frame it is sent back
pub record FastBallIsSentBack : Type 0 where
  pub else_passes : NonePassed (untouched fast_ball) (after_one_step fast_ball) → ⊥
  pub goes_back :
      (advanced fast_ball 0 0).ball
      ≡ record { x = pos 25136; y = pos 15360; dx = neg_ℤ (pos 6144); dy = pos 0 }
