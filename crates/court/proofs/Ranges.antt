-- Numbers brought into their ranges. Assumes nothing.
use Rattle.std.proofs.Common.{◌≡◌, ℕ, ℤ, arith}
use Rattle.std.proofs.lemmas.Int.{ints}
use Rattle.court.specs.declared.state.Ball.{Ball}
use Rattle.court.specs.declared.state.Paddle.{Paddle}
use Rattle.court.specs.declared.state.State.{State}
use Rattle.court.specs.Frame.{between}
use Rattle.court.specs.Bounds.{Within, BallIn, PaddleIn, InCourt, ball_clamped, paddle_clamped, clamped_in}

between_same : (lo hi a : ℤ) → Within lo hi a → between lo hi a ≡ a
between_same lo hi a h = grind (arith, ints)

pub ball_from : (x x' y y' dx dx' dy dy' : ℤ) → x ≡ x' → y ≡ y' → dx ≡ dx' → dy ≡ dy' → ◌≡◌ {A = Ball} (record { x = x; y = y; dx = dx; dy = dy }) (record { x = x'; y = y'; dx = dx'; dy = dy' })
ball_from x x' y y' dx dx' dy dy' e f g h = cc

ball_same : (b : Ball) → BallIn b → ball_clamped b ≡ b
ball_same b h =
    ball_from _ _ _ _ _ _ _ _ (between_same _ _ b.x h.x) (between_same _ _ b.y h.y) (between_same _ _ b.dx h.dx) (between_same _ _ b.dy h.dy)

pub paddle_from : (x x' y y' : ℤ) → x ≡ x' → y ≡ y' → ◌≡◌ {A = Paddle} (record { x = x; y = y }) (record { x = x'; y = y' })
paddle_from x x' y y' e f = cc

paddle_same : (lo hi : ℤ) (p : Paddle) → PaddleIn lo hi p → paddle_clamped lo hi p ≡ p
paddle_same lo hi p h = paddle_from _ _ _ _ (between_same lo hi p.x h.x) (between_same _ _ p.y h.y)

pub state_from : (b b' : Ball) (l l' r r' : Paddle) (m m' n n' w w' : ℕ) → b ≡ b' → l ≡ l' → r ≡ r' → m ≡ m' → n ≡ n' → w ≡ w' → ◌≡◌ {A = State} (record { ball = b; left = l; right = r; score = record { left = m; right = n }; wait = w }) (record { ball = b'; left = l'; right = r'; score = record { left = m'; right = n' }; wait = w' })
state_from b b' l l' r r' m m' n n' w w' e f g h i j = cc

pub clamped_same : (s : State) → InCourt s → clamped_in s ≡ s
clamped_same s h =
    state_from _ _ _ _ _ _ _ _ _ _ _ _ (ball_same s.ball h.ball_in) (paddle_same _ _ s.left h.left_in) (paddle_same _ _ s.right h.right_in) (omega (arith, h.left_score)) (omega (arith, h.right_score)) (omega (arith, h.wait_in))
