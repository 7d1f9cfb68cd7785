-- The picture of a state: 120 rows of 160 bytes, a byte for each dot. Dot i of row j has its middle at (256 i + 128, 256 j + 128).
-- Assumes nothing: these are definitions, and statements that are proved in proofs/.
use Rattle.std.specs.Prelude.{◌≡◌, ℕ, zero, suc, ◌+◌, ◌-◌, ◌*◌, ◌/◌, ◌%◌, ◌<◌, Bool, true, false, cond, ◌&&◌, ◌||◌, List, [], ◌∷◌, ◌++◌, length, ℤ, pos, ◌-ℤ◌, ◌==◌, int_lt, nat_le, nat_lt, slice_index, slice_index_or}
use Rattle.court.specs.Frame.{size, ball_half, paddle_half_x, paddle_half_y}
use Rattle.court.specs.declared.state.Paddle.{Paddle}
use Rattle.court.specs.declared.state.State.{State}

-- ---- what a dot is in

-- the middle of a dot is nearer to a position than half a side, in x or in y
unfoldable pub near : ℤ → ℤ → ℕ → Bool
near position half i = int_lt (size (pos (256 * i + 128) -ℤ position)) half

abbrev pub in_one_paddle : Paddle → ℕ → ℕ → Bool
in_one_paddle p i j = near p.x paddle_half_x i && near p.y paddle_half_y j

abbrev pub in_paddle : State → ℕ → ℕ → Bool
in_paddle s i j = in_one_paddle s.left i j || in_one_paddle s.right i j

abbrev pub in_ball : State → ℕ → ℕ → Bool
in_ball s i j = near s.ball.x ball_half i && near s.ball.y ball_half j

-- digits 0 to 9, of 3 by 5 dots: a number for each row, with bits 4, 2 and 1 from the left
unfoldable pub glyphs : List (List ℕ)
glyphs =
    (7 ∷ 5 ∷ 5 ∷ 5 ∷ 7 ∷ [])
    ∷ (2 ∷ 6 ∷ 2 ∷ 2 ∷ 7 ∷ [])
    ∷ (7 ∷ 1 ∷ 7 ∷ 4 ∷ 7 ∷ [])
    ∷ (7 ∷ 1 ∷ 7 ∷ 1 ∷ 7 ∷ [])
    ∷ (5 ∷ 5 ∷ 7 ∷ 1 ∷ 1 ∷ [])
    ∷ (7 ∷ 4 ∷ 7 ∷ 1 ∷ 7 ∷ [])
    ∷ (7 ∷ 4 ∷ 7 ∷ 5 ∷ 7 ∷ [])
    ∷ (7 ∷ 1 ∷ 1 ∷ 1 ∷ 1 ∷ [])
    ∷ (7 ∷ 5 ∷ 7 ∷ 5 ∷ 7 ∷ [])
    ∷ (7 ∷ 5 ∷ 7 ∷ 1 ∷ 7 ∷ [])
    ∷ []

-- column i is one of three from left on, and its bit is set
unfoldable pub in_bits : ℕ → ℕ → ℕ → Bool
in_bits bits left i = (nat_le left i && nat_lt i (left + 3)) && (bits / slice_index_or (4 ∷ 2 ∷ 1 ∷ []) (i - left) 1) % 2 == 1

-- digits stand in rows 4 to 8
unfoldable pub in_digit : ℕ → ℕ → ℕ → ℕ → Bool
in_digit digit left i j = (nat_le 4 j && nat_lt j 9) && in_bits (slice_index (slice_index_or glyphs digit []) (j - 4)) left i

abbrev pub in_score : State → ℕ → ℕ → Bool
in_score s i j = in_digit s.score.left 70 i j || in_digit s.score.right 87 i j

-- the centre line, and both ends above and below their goals, which are in rows 40 to 79
unfoldable pub on_line : ℕ → ℕ → Bool
on_line i j = (i == 79 || i == 80) || ((i == 0 || i == 159) && (nat_lt j 40 || nat_lt 79 j))

-- ---- the picture

-- the byte of dot i of row j
unfoldable pub dot : State → ℕ → ℕ → ℕ
dot s i j = cond (in_paddle s i j) 3 (cond (in_ball s i j) 2 (cond (in_score s i j) 4 (cond (on_line i j) 1 0)))

-- n dots of row j from dot i on
unfoldable pub row_of : State → ℕ → ℕ → ℕ → List ℕ
row_of s j i zero = []
row_of s j i (suc n) = dot s i j ∷ row_of s j (suc i) n

-- n rows from row j on
unfoldable pub rows_of : State → ℕ → ℕ → List ℕ
rows_of s j zero = []
rows_of s j (suc n) = row_of s j 0 160 ++ rows_of s (suc j) n

unfoldable pub picture_of : State → List ℕ
picture_of s = rows_of s 0 120

-- ---- what is promised of it

-- a dot that is in a paddle shows the paddle, also where it is in the ball
abbrev pub PaddleFirst : Type 0
PaddleFirst = (s : State) (i j : ℕ) → in_paddle s i j ≡ true → dot s i j ≡ 3

-- a dot that is in the ball and in no paddle shows the ball
abbrev pub BallNext : Type 0
BallNext = (s : State) (i j : ℕ) → in_paddle s i j ≡ false → in_ball s i j ≡ true → dot s i j ≡ 2

-- every dot has its place: dot i of row j is byte 160 j + i
abbrev pub DotsInPlace : Type 0
DotsInPlace = (s : State) (i j : ℕ) → i < 160 → j < 120 → slice_index (picture_of s) (160 * j + i) ≡ dot s i j

-- and there are no other bytes
abbrev pub Whole : Type 0
Whole = (s : State) → length (picture_of s) ≡ 19200
