-- The former step 4, and where a frame by it is another than a frame today. Assumes nothing: these
-- are definitions, and statements that are proved in proofs/.
use Rattle.std.specs.Prelude.{◌≡◌, ℕ, ◌<◌, false, if◌then◌else◌, ◌&&◌, ◌||◌, Bool, [], ◌∷◌, pos, neg_ℤ, ℤ}
use Rattle.std.specs.List.{AllByRecursion}
use Rattle.court.specs.declared.state.Ball.{Ball}
use Rattle.court.specs.declared.state.Paddle.{Paddle}
use Rattle.court.specs.declared.state.Side.{Side}
use Rattle.court.specs.declared.state.Side.TheVariants.{Left, Right}
use Rattle.court.specs.declared.state.State.{State}
use Rattle.court.specs.Frame.{PaddleRule, meets, struck, step_count, step_moved, after_steps, both_at_once, paddles_moved, advanced, advanced_by}

abbrev pub struck_where_met : Side → Paddle → Ball → Ball
struck_where_met side p b = if meets b p then struck side p b else b

-- the former rule: the left paddle strikes the ball, and then the right one what the left one made
-- of it
unfoldable pub one_after_the_other : PaddleRule
one_after_the_other l r before moved = struck_where_met Right r (struck_where_met Left l moved)

-- the left paddle meets the ball as step 3 left it, and so does the right one, or it meets the ball
-- that the left one struck
abbrev pub both_met : Paddle → Paddle → Ball → Bool
both_met l r moved = meets moved l && (meets moved r || meets (struck Left l moved) r)

-- so it is in a step of a frame, by the state after the paddles have moved and the steps before it
abbrev pub both_met_at : State → ℕ → Bool
both_met_at s k =
    both_met s.left s.right
    (step_moved s.ball k (after_steps both_at_once s.left s.right s.ball k))

-- a frame in which that happens in no step is the same by both rules
abbrev pub SameUnlessBothMet : Type 0
SameUnlessBothMet =
    (s : State) (a b : ℕ) →
    ((k : ℕ) → k < step_count s.ball → both_met_at (paddles_moved s a b) k ≡ false) →
    advanced s a b ≡ advanced_by one_after_the_other s a b

-- ---- one state for each case, with the frame after it in which nobody moves

-- a state, the next one today, and the next one by the former rule
pub record Difference : Type 0 where
  pub before : State
  pub today : State
  pub formerly : State

-- a ball in play between two paddles, without points
abbrev pub between_paddles : Paddle → Paddle → ℤ → ℤ → ℤ → ℤ → State
between_paddles l r x y dx dy =
    record {
      ball = record { x = x; y = y; dx = dx; dy = dy };
      left = l;
      right = r;
      score = record { left = 0; right = 0 };
      wait = 0;
    }

-- both paddles meet the ball as step 3 left it
abbrev pub met_by_both : Difference
met_by_both =
    let l : Paddle = record { x = pos 19968; y = pos 11264 } in
    let r : Paddle = record { x = pos 20992; y = pos 10240 } in
    record {
      before = between_paddles l r (pos 20004) (pos 11274) (pos 515) (pos 700);
      today = between_paddles l r (pos 20004) (pos 11274) (neg_ℤ (pos 515)) (pos 700);
      formerly = between_paddles l r (pos 19968) (pos 11974) (neg_ℤ (pos 579)) (pos 852);
    }

-- only the left one does, and the former rule let the right one strike too
abbrev pub met_by_left : Difference
met_by_left =
    let l : Paddle = record { x = pos 19968; y = pos 19968 } in
    let r : Paddle = record { x = pos 21504; y = pos 22528 } in
    record {
      before = between_paddles l r (pos 20361) (pos 21335) (neg_ℤ (pos 677)) (neg_ℤ (pos 173));
      today = between_paddles l r (pos 20992) (pos 21162) (pos 709) (neg_ℤ (pos 99));
      formerly = between_paddles l r (pos 20480) (pos 21162) (neg_ℤ (pos 741)) (neg_ℤ (pos 184));
    }

abbrev pub ComesOutSo : Difference → Type 0
ComesOutSo d =
    (advanced d.before 0 0 ≡ d.today) × (advanced_by one_after_the_other d.before 0 0 ≡ d.formerly)

abbrev pub BothCasesComeOut : Type 0
BothCasesComeOut = AllByRecursion ComesOutSo (met_by_both ∷ (met_by_left ∷ []))
