-- A game whose states can be saved. Assumes nothing: these are definitions.
use Rattle.std.specs.Prelude.{◌≡◌, ℕ, ◌≤◌, Bool, true, List, length}
use Rattle.game.specs.Plain.{Game}

-- what an engine that saves states asks of a game: the game, which bytes are inputs of it, a state's bytes, and which states a
-- game can come to
pub record SavedRules (S : Type 0) : Type 1 where
  pub game : Game S
  pub fits : ℕ → Bool
  pub coded : S → List ℕ
  pub ok : S → Type 0

-- what such a game owes: it comes to such states only, each has 64 bytes, and an input has four bits, as packets carry it
pub record Lawful {S : Type 0} (r : SavedRules S) : Type 0 where
  pub begins : r.ok r.game.start
  pub goes_on : (s : S) (a b : ℕ) → r.ok s → r.ok (r.game.frame s a b)
  pub long : (s : S) → length (r.coded s) ≡ 64
  pub narrow : (a : ℕ) → r.fits a ≡ true → a ≤ 15
