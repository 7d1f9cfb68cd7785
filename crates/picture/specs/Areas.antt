-- Runs of columns or rows, and those that a state's ball and paddles cover. Assumes nothing: these are definitions.
use Rattle.std.specs.Prelude.{◌≡◌, ℕ, ◌≤◌, Bool, ◌&&◌, ℤ, nat_le, nat_lt}
use Rattle.court.specs.Frame.{ball_half, paddle_half_x, paddle_half_y}
use Rattle.court.specs.declared.state.State.{State}
use Rattle.picture.specs.Picture.{near}
use Rattle.picture.specs.declared.areas.Areas.{Areas}
use Rattle.picture.specs.declared.areas.Run.{Run}

unfoldable pub in_run : Run → ℕ → Bool
in_run r i = nat_le r.from i && nat_lt i r.to

-- a run is that of the dots near a position, and ends in the picture
pub record Covers (position half : ℤ) (r : Run) : Type 0 where
  pub ordered : r.from ≤ r.to
  pub within : r.to ≤ 160
  pub same : (i : ℕ) → near position half i ≡ in_run r i

-- the runs of a state's ball and paddles
pub record Covered (s : State) (a : Areas) : Type 0 where
  pub ball_x : Covers s.ball.x ball_half a.ball.columns
  pub ball_y : Covers s.ball.y ball_half a.ball.rows
  pub left_x : Covers s.left.x paddle_half_x a.left.columns
  pub left_y : Covers s.left.y paddle_half_y a.left.rows
  pub right_x : Covers s.right.x paddle_half_x a.right.columns
  pub right_y : Covers s.right.y paddle_half_y a.right.rows
