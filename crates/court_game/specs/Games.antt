-- The court as a game, what is promised of it, and games as they come out. Assumes nothing: these are definitions,
-- and statements that are proved in proofs/.
use Rattle.std.specs.Prelude.{◌≡◌, ℕ, Bool, true, List, [], ◌∷◌, ◌++◌, replicate, pos, neg_ℤ, nat_le}
use Rattle.std.specs.List.{AllByRecursion}
use Rattle.court.specs.declared.state.Ball.{Ball}
use Rattle.court.specs.declared.state.Paddle.{Paddle}
use Rattle.court.specs.declared.state.State.{State}
use Rattle.court.specs.Frame.{start, advanced, over}
use Rattle.court.specs.Bounds.{InCourt}
use Rattle.game.specs.Plain.{Game, plays}

abbrev pub court_game : Game State
court_game = record { start = start; frame = advanced }

-- an input has four bits
abbrev pub is_input : ℕ → Bool
is_input a = nat_le a 15

-- ball and paddles stay in the court, whatever the inputs
abbrev pub StaysIn : Type 0
StaysIn = (xs ys : List ℕ) → InCourt (plays court_game start xs ys)

-- once somebody has nine points nothing changes any more, whatever the inputs
abbrev pub RestsAtNine : Type 0
RestsAtNine = (s : State) (xs ys : List ℕ) → over s ≡ true → plays court_game s xs ys ≡ s

-- ---- games as they come out

-- a game by the inputs of seat 0 and of seat 1, and the state after the last
pub record Played : Type 0 where
  pub left : List ℕ
  pub right : List ℕ
  pub after : State

-- no point yet, both paddles where they start
abbrev pub level : Ball → ℕ → State
level b w = record { ball = b; left = start.left; right = start.right; score = start.score; wait = w }

-- after a first point, which seat 0 won: the ball is served to it, up
abbrev pub first_point : Paddle → State
first_point p =
    record {
      ball = record { x = pos 20480; y = pos 15360; dx = neg_ℤ (pos 512); dy = neg_ℤ (pos 256) };
      left = start.left;
      right = p;
      score = record { left = 1; right = 0 };
      wait = 60;
    }

abbrev pub games_played : List Played
games_played =
    -- the wait is over
    record { left = replicate 60 0; right = replicate 60 0; after = level start.ball 0 }
    -- the ball has gone for a frame
    ∷ record { left = replicate 61 0; right = replicate 61 0; after = level (record { x = pos 20992; y = pos 15616; dx = pos 512; dy = pos 256 }) 0 }
    -- it has just met the right end, below the goal
    ∷ record { left = replicate 100 0; right = replicate 100 0; after = level (record { x = pos 40448; y = pos 25600; dx = neg_ℤ (pos 512); dy = pos 256 }) 0 }
    -- the left paddle to the left and up, then back; the right one to the right and up, to the end of its half
    ∷ record {
      left = replicate 10 5 ++ replicate 10 10;
      right = replicate 20 6;
      after = record {
        ball = start.ball;
        left = record { x = pos 5632; y = pos 15360 };
        right = record { x = pos 40448; y = pos 5120 };
        score = start.score;
        wait = 40;
      };
    }
    -- the right paddle went down, and the ball past it into the goal
    ∷ record { left = replicate 246 0; right = replicate 246 8; after = first_point (record { x = pos 38912; y = pos 28672 }) }
    -- the same point, later
    ∷ record { left = replicate 377 0; right = replicate 377 0; after = first_point start.right }
    ∷ []

abbrev pub GamesComeOut : Type 0
GamesComeOut = AllByRecursion (λ g. plays court_game start g.left g.right ≡ g.after) games_played
