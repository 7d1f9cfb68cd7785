-- A game for any number of seats, and its plain game: all inputs of all seats, frame by frame.
-- Assumes nothing: these are definitions, and a statement that is proved in proofs/.
use Rattle.std.specs.Prelude.{◌≡◌, ℕ, zero, suc, ◌+◌, List, map, slice_index}

-- where a game starts, and what a frame does with the inputs of all seats, seat 0's first
pub record Game (S : Type 0) : Type 0 where
  pub start : S
  pub frame : S → List ℕ → S

-- as many frames as a game has at most
abbrev pub most_frames : ℕ
most_frames = 1000000

-- the state so many frames after another, by the inputs of each frame
unfoldable pub plays : {S : Type 0} → Game S → S → (ℕ → List ℕ) → ℕ → S
plays g s inputs zero = s
plays g s inputs (suc k) = g.frame (plays g s inputs k) (inputs k)

-- the inputs of frame k, from a row of inputs for each seat
abbrev pub inputs_at : List (List ℕ) → ℕ → List ℕ
inputs_at rows k = map (λ row. slice_index row k) rows

-- playing on from a state on the way is playing from the beginning
abbrev pub FromSaved : Type 0 → Type 0
FromSaved S =
    (g : Game S) (s : S) (inputs : ℕ → List ℕ) (k m : ℕ) →
    plays g (plays g s inputs k) (λ i. inputs (k + i)) m ≡ plays g s inputs (k + m)
