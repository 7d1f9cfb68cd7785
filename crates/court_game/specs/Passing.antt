-- No ball passes through a paddle, in any game. Assumes nothing: these are definitions, and
-- statements that are proved in proofs/.
use Rattle.std.specs.Prelude.{ℕ, List, [], ◌∷◌, ◌++◌}
use Rattle.court.specs.declared.state.State.{State}
use Rattle.court.specs.Frame.{advanced, start}
use Rattle.court.specs.Passing.{Moment, untouched, frame_moments, NonePassedAlong, IsMomentOf, last_moment}
use Rattle.game.specs.Plain.{plays}
use Rattle.court_game.specs.Games.{court_game}

-- the moments of a game from a state on, by the inputs of both seats, as far as both go
unfoldable pub moments : State → List ℕ → List ℕ → List Moment
moments s [] bs = []
moments s (a ∷ xs) [] = []
moments s (a ∷ xs) (b ∷ bs) = frame_moments s a b ++ moments (advanced s a b) xs bs

-- in no game does the ball pass through a paddle, whatever the inputs
abbrev pub NoBallPasses : Type 0
NoBallPasses = (xs ys : List ℕ) → NonePassedAlong (untouched start) (moments start xs ys)

-- after any inputs the last moment is that of the plain game's state: the moments are of this game
abbrev pub MomentsAreOfTheGame : Type 0
MomentsAreOfTheGame =
    (xs ys : List ℕ) →
    IsMomentOf (plays court_game start xs ys) (last_moment (untouched start) (moments start xs ys))
