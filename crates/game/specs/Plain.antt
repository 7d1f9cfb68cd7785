-- A game for two seats that goes on frame by frame, and its plain game: all inputs of both seats, one frame after the other.
-- Assumes nothing: these are definitions, and a statement that is proved in proofs/.
use Rattle.std.specs.Prelude.{◌≡◌, ℕ, ◌/◌, ◌%◌, Bool, List, [], ◌∷◌, take, drop}

-- where a game starts, and what a frame does with the inputs of seat 0 and seat 1
pub record Game (S : Type 0) : Type 0 where
  pub start : S
  pub frame : S → ℕ → ℕ → S

-- what an engine asks of a game: the game, and which bytes are inputs of it
pub record Rules (S : Type 0) : Type 0 where
  pub game : Game S
  pub fits : ℕ → Bool

-- the inputs of seat 0 and of seat 1, frame by frame, as far as both go
unfoldable pub plays : {S : Type 0} → Game S → S → List ℕ → List ℕ → S
plays g s [] bs = s
plays g s (a ∷ xs) [] = s
plays g s (a ∷ xs) (b ∷ bs) = plays g (g.frame s a b) xs bs

-- a frame's inputs in one byte, as files have them: seat 0's and 16 times seat 1's
abbrev pub seat_0 : ℕ → ℕ
seat_0 b = b % 16

abbrev pub seat_1 : ℕ → ℕ
seat_1 b = b / 16

-- playing on from a state on the way is playing from the beginning
abbrev pub FromSaved : Type 0 → Type 0
FromSaved S =
    (g : Game S) (s : S) (k : ℕ) (xs ys : List ℕ) →
    plays g (plays g s (take k xs) (take k ys)) (drop k xs) (drop k ys) ≡ plays g s xs ys
