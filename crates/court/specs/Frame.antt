-- One frame of the game by its rules, in whole numbers. Positions are in 256ths of a dot,
-- velocities are per frame. Assumes nothing: these are definitions.
use Rattle.std.specs.Prelude.{ℕ, zero, suc, ◌+◌, ◌-◌, ◌/◌, ◌%◌, Bool, if◌then◌else◌, ◌&&◌, ◌||◌, ℤ, pos, ◌+ℤ◌, ◌-ℤ◌, neg_ℤ, ◌==◌, int_div, int_le, nat_le, nat_lt, max, unsigned_abs}
use Rattle.std.specs.Int.Signed.{lt_z}
use Rattle.std.specs.Int.{div_ceil, int_max, int_min}
use Rattle.court.specs.declared.state.Ball.{Ball}
use Rattle.court.specs.declared.state.Paddle.{Paddle}
use Rattle.court.specs.declared.state.Score.{Score}
use Rattle.court.specs.declared.state.Side.{Side}
use Rattle.court.specs.declared.state.Side.TheVariants.{Left, Right}
use Rattle.court.specs.declared.state.State.{State}

-- the court: 160 by 120 dots
abbrev pub court_width : ℤ
court_width = pos 40960

abbrev pub court_height : ℤ
court_height = pos 30720

-- half the sides of the ball, 4 by 4 dots, and of a paddle, 4 by 16
abbrev pub ball_half : ℤ
ball_half = pos 512

abbrev pub paddle_half_x : ℤ
paddle_half_x = pos 512

abbrev pub paddle_half_y : ℤ
paddle_half_y = pos 2048

-- the halves of the court that the paddles keep to
abbrev pub left_most : ℤ
left_most = pos 19968

abbrev pub right_least : ℤ
right_least = pos 20992

-- how far a paddle goes in a frame
abbrev pub paddle_speed : ℤ
paddle_speed = pos 512

-- the largest velocity in x and in y
abbrev pub top_speed : ℤ
top_speed = pos 6144

-- the longest step of a ball in x and in y: less than half a paddle's reach on both sides
abbrev pub longest_step : ℕ
longest_step = 768

-- the steps of the fastest ball's frame
abbrev pub most_steps : ℕ
most_steps = 8

-- ---- numbers

abbrev pub size : ℤ → ℤ
size a = pos (unsigned_abs a)

-- a, but at least lo and at most hi
abbrev pub between : ℤ → ℤ → ℤ → ℤ
between lo hi a = int_max lo (int_min a hi)

-- a sixteenth, rounded toward 0
abbrev pub sixteenth_of : ℤ → ℤ
sixteenth_of d = int_div d (pos 16)

-- a distance into the court, seen from one of its ends: to the right from the left end, to the left
-- from the right end
abbrev pub inward : Side → ℤ → ℤ
inward Left d = d
inward Right d = neg_ℤ d

-- ---- 1. each paddle goes by its input: 1 left, 2 right, 4 up, 8 down, added

abbrev pub bit : ℕ → ℕ → Bool
bit n input = (input / n) % 2 == 1

-- both keys of a pair are as good as none
abbrev pub stepped : Bool → Bool → ℤ
stepped back forth =
    if back then (if forth then pos 0 else neg_ℤ paddle_speed)
    else (if forth then paddle_speed else pos 0)

abbrev pub moved_x : ℤ → ℤ → ℤ → ℕ → ℤ
moved_x lo hi x input = between lo hi (x +ℤ stepped (bit 1 input) (bit 2 input))

abbrev pub moved_y : ℤ → ℕ → ℤ
moved_y y input =
    between paddle_half_y (court_height -ℤ paddle_half_y) (y +ℤ stepped (bit 4 input) (bit 8 input))

unfoldable pub paddle_moved : ℤ → ℤ → Paddle → ℕ → Paddle
paddle_moved lo hi p input = record { x = moved_x lo hi p.x input; y = moved_y p.y input }

abbrev pub paddles_moved : State → ℕ → ℕ → State
paddles_moved s a b =
    record {
      ball = s.ball;
      left = paddle_moved paddle_half_x left_most s.left a;
      right = paddle_moved right_least (court_width -ℤ paddle_half_x) s.right b;
      score = s.score;
      wait = s.wait;
    }

-- ---- 2. while the ball waits, the wait falls, and that is all

abbrev pub waited : State → State
waited s =
    record { ball = s.ball; left = s.left; right = s.right; score = s.score; wait = s.wait - 1 }

-- ---- the steps of a frame

-- by the ball's velocity at the frame's beginning: the fewest of which none is too long, their
-- lengths equal, rounded down, and one more in each of the first ones until the rest is used

unfoldable pub step_count : Ball → ℕ
step_count b = max 1 (div_ceil (max (unsigned_abs b.dx) (unsigned_abs b.dy)) longest_step)

-- the length of step i, counted from 0, of n steps that are d long together
unfoldable pub step_length : ℕ → ℕ → ℕ → ℕ
step_length d n i = d / n + (if nat_lt i (d % n) then 1 else 0)

-- so far in the direction of a velocity; nowhere where that is 0
unfoldable pub along : ℤ → ℕ → ℤ
along v d = if lt_z v (pos 0) then neg_ℤ (pos d) else (if lt_z (pos 0) v then pos d else pos 0)

-- ---- 3. the ball moves so far in x and in y, and turns round at the upper and the lower wall

unfoldable pub ball_moved : ℤ → ℤ → Ball → Ball
ball_moved by_x by_y b =
    if lt_z (b.y +ℤ by_y) ball_half
    then record { x = b.x +ℤ by_x; y = ball_half; dx = b.dx; dy = size b.dy }
    else (if lt_z (court_height -ℤ ball_half) (b.y +ℤ by_y)
    then record {
      x = b.x +ℤ by_x;
      y = court_height -ℤ ball_half;
      dx = b.dx;
      dy = neg_ℤ (size b.dy);
    }
    else record { x = b.x +ℤ by_x; y = b.y +ℤ by_y; dx = b.dx; dy = b.dy })

-- a ball after step i of a frame at whose beginning it was `first`, as step 3 leaves it: each step
-- goes where the ball now goes
abbrev pub step_moved : Ball → ℕ → Ball → Ball
step_moved first i b =
    ball_moved (along b.dx (step_length (unsigned_abs first.dx) (step_count first) i))
    (along b.dy (step_length (unsigned_abs first.dy) (step_count first) i)) b

-- ---- 4. both paddles look at the ball as step 3 left it

abbrev pub meets : Ball → Paddle → Bool
meets b p =
    lt_z (size (b.x -ℤ p.x)) (paddle_half_x +ℤ ball_half)
    && lt_z (size (b.y -ℤ p.y)) (paddle_half_y +ℤ ball_half)

abbrev pub quickened : ℤ → ℤ
quickened dx = int_min (size dx +ℤ pos 32) top_speed

abbrev pub bent_by : ℤ → ℤ → ℤ
bent_by dy d = between (neg_ℤ top_speed) top_speed (dy +ℤ sixteenth_of d)

-- a ball that the paddle on one side sends away from its own end, faster, and bent by where it met
-- it
abbrev pub struck : Side → Paddle → Ball → Ball
struck side p b =
    record {
      x = p.x +ℤ inward side (paddle_half_x +ℤ ball_half);
      y = b.y;
      dx = inward side (quickened b.dx);
      dy = bent_by b.dy (b.y -ℤ p.y);
    }

-- a ball that both paddles meet: it turns round in x, and lies where it was before the step
abbrev pub sent_back : Ball → Ball → Ball
sent_back before moved = record { x = before.x; y = before.y; dx = neg_ℤ moved.dx; dy = moved.dy }

-- what step 4 makes of a ball, by the left paddle and the right one, the ball before it moved and
-- as step 3 left it
abbrev pub PaddleRule : Type 0
PaddleRule = Paddle → Paddle → Ball → Ball → Ball

unfoldable pub both_at_once : PaddleRule
both_at_once l r before moved =
    if meets moved l then (if meets moved r then sent_back before moved else struck Left l moved)
    else (if meets moved r then struck Right r moved else moved)

-- ---- 5. past an end: in the goal it is a point for the other seat and a serve, else the ball
-- turns round there

abbrev pub in_goal : ℤ → Bool
in_goal y = int_le (pos 10240) y && int_le y (pos 20480)

abbrev pub with_ball : Ball → State → State
with_ball b s = record { ball = b; left = s.left; right = s.right; score = s.score; wait = s.wait }

-- the score, where the ball went out at one end
abbrev pub awarded : Side → Score → Score
awarded Left sc = record { left = sc.left; right = sc.right + 1 }
awarded Right sc = record { left = sc.left + 1; right = sc.right }

-- from the middle toward the seat that won the point, down where the points together are even
abbrev pub serve_ball : Side → Score → Ball
serve_ball out sc =
    record {
      x = pos 20480;
      y = pos 15360;
      dx = inward out (pos 512);
      dy = if (sc.left + sc.right) % 2 == 0 then pos 256 else neg_ℤ (pos 256);
    }

abbrev pub scored : Side → State → State
scored out s =
    record {
      ball = serve_ball out (awarded out s.score);
      left = s.left;
      right = s.right;
      score = awarded out s.score;
      wait = 60;
    }

-- where the ball's middle is as it touches an end
abbrev pub end_at : Side → ℤ
end_at Left = ball_half
end_at Right = court_width -ℤ ball_half

abbrev pub turned : Side → Ball → Ball
turned end b = record { x = end_at end; y = b.y; dx = inward end (size b.dx); dy = b.dy }

unfoldable pub end_met : Side → State → State
end_met end s = if in_goal s.ball.y then scored end s else with_ball (turned end s.ball) s

unfoldable pub ends_met : State → State
ends_met s =
    if lt_z s.ball.x ball_half then end_met Left s
    else (if lt_z (court_width -ℤ ball_half) s.ball.x then end_met Right s else s)

-- ---- the frame

-- the ball after k steps of a frame, each with the walls and the paddles, by a rule for step 4
unfoldable pub after_steps : PaddleRule → Paddle → Paddle → Ball → ℕ → Ball
after_steps rule l r first zero = first
after_steps rule l r first (suc k) =
    rule l r (after_steps rule l r first k) (step_moved first k (after_steps rule l r first k))

-- the ball's steps, and then the ends, by a rule for step 4
unfoldable pub ball_played_by : PaddleRule → State → State
ball_played_by rule s =
    ends_met (with_ball (after_steps rule s.left s.right s.ball (step_count s.ball)) s)

-- nine points end the game
abbrev pub over : State → Bool
over s = nat_le 9 s.score.left || nat_le 9 s.score.right

unfoldable pub advanced_by : PaddleRule → State → ℕ → ℕ → State
advanced_by rule s a b =
    if over s then s
    else (if s.wait == 0
    then ball_played_by rule (paddles_moved s a b)
    else waited (paddles_moved s a b))

abbrev pub ball_played : State → State
ball_played = ball_played_by both_at_once

abbrev pub advanced : State → ℕ → ℕ → State
advanced = advanced_by both_at_once

unfoldable pub start : State
start =
    record {
      ball = record { x = pos 20480; y = pos 15360; dx = pos 512; dy = pos 256 };
      left = record { x = pos 2048; y = pos 15360 };
      right = record { x = pos 38912; y = pos 15360 };
      score = record { left = 0; right = 0 };
      wait = 60;
    }
