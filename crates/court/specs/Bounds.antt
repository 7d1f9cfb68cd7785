-- What holds of every state that a game comes to. Assumes nothing: these are definitions.
use Rattle.std.specs.Prelude.{ℕ, ◌*◌, ◌<◌, ◌≤◌, min, ℤ, pos, ◌+ℤ◌, ◌-ℤ◌, neg_ℤ, ◌≤ℤ◌}
use Rattle.court.specs.declared.state.Ball.{Ball}
use Rattle.court.specs.declared.state.Paddle.{Paddle}
use Rattle.court.specs.declared.state.Side.{Side}
use Rattle.court.specs.declared.state.Side.TheVariants.{Left, Right}
use Rattle.court.specs.declared.state.State.{State}
use Rattle.court.specs.Frame.{court_width, court_height, ball_half, paddle_half_x, paddle_half_y, left_most, right_least, top_speed, longest_step, most_steps, between}

abbrev pub Within : ℤ → ℤ → ℤ → Type 0
Within lo hi a = (lo ≤ℤ a) × (a ≤ℤ hi)

-- how far k steps go at most
abbrev pub most_flown : ℕ → ℤ
most_flown k = pos (longest_step * k)

-- a ball after k steps of a frame: its x may be past an end, by as much as k steps go
pub record Flying (k : ℕ) (b : Ball) : Type 0 where
  pub x : Within (ball_half -ℤ most_flown k) (court_width -ℤ ball_half +ℤ most_flown k) b.x
  pub y : Within ball_half (court_height -ℤ ball_half) b.y
  pub dx : Within (neg_ℤ top_speed) top_speed b.dx
  pub dy : Within (neg_ℤ top_speed) top_speed b.dy

pub record BallIn (b : Ball) : Type 0 where
  pub x : Within ball_half (court_width -ℤ ball_half) b.x
  pub y : Within ball_half (court_height -ℤ ball_half) b.y
  pub dx : Within (neg_ℤ top_speed) top_speed b.dx
  pub dy : Within (neg_ℤ top_speed) top_speed b.dy

pub record PaddleIn (lo hi : ℤ) (p : Paddle) : Type 0 where
  pub x : Within lo hi p.x
  pub y : Within paddle_half_y (court_height -ℤ paddle_half_y) p.y

-- a paddle somewhere in the court
abbrev pub OnCourt : Paddle → Type 0
OnCourt p = PaddleIn paddle_half_x (court_width -ℤ paddle_half_x) p

-- a paddle in the half of its side
abbrev pub InHalf : Side → Paddle → Type 0
InHalf Left p = PaddleIn paddle_half_x left_most p
InHalf Right p = PaddleIn right_least (court_width -ℤ paddle_half_x) p

-- ball and paddles are whole in the court, the paddles in their halves, nothing is faster than may
-- be, nobody has more than nine points, and the wait is at most 60
pub record InCourt (s : State) : Type 0 where
  pub ball_in : BallIn s.ball
  pub left_in : PaddleIn paddle_half_x left_most s.left
  pub right_in : PaddleIn right_least (court_width -ℤ paddle_half_x) s.right
  pub left_score : s.score.left ≤ 9
  pub right_score : s.score.right ≤ 9
  pub wait_in : s.wait ≤ 60

-- a state in the middle of a frame, of a game that is not over
pub record InPlay (s : State) : Type 0 where
  pub ball_in : Flying most_steps s.ball
  pub left_in : PaddleIn paddle_half_x left_most s.left
  pub right_in : PaddleIn right_least (court_width -ℤ paddle_half_x) s.right
  pub left_score : s.score.left < 9
  pub right_score : s.score.right < 9
  pub wait_in : s.wait ≤ 60

-- ---- a state with each number brought into its range

abbrev pub ball_clamped : Ball → Ball
ball_clamped b =
    record {
      x = between ball_half (court_width -ℤ ball_half) b.x;
      y = between ball_half (court_height -ℤ ball_half) b.y;
      dx = between (neg_ℤ top_speed) top_speed b.dx;
      dy = between (neg_ℤ top_speed) top_speed b.dy;
    }

abbrev pub paddle_clamped : ℤ → ℤ → Paddle → Paddle
paddle_clamped lo hi p =
    record {
      x = between lo hi p.x;
      y = between paddle_half_y (court_height -ℤ paddle_half_y) p.y;
    }

abbrev pub clamped_in : State → State
clamped_in s =
    record {
      ball = ball_clamped s.ball;
      left = paddle_clamped paddle_half_x left_most s.left;
      right = paddle_clamped right_least (court_width -ℤ paddle_half_x) s.right;
      score = record { left = min s.score.left 9; right = min s.score.right 9 };
      wait = min s.wait 60;
    }
