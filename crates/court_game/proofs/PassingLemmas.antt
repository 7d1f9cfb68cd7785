-- No ball passes through a paddle, in any game. Assumes nothing.
use Rattle.std.proofs.Common.{ℕ, List, [], ◌∷◌}
use Rattle.court.specs.declared.state.State.{State}
use Rattle.court.specs.Frame.{advanced, start}
use Rattle.court.specs.Bounds.{InCourt}
use Rattle.court.specs.Passing.{Moment, untouched, frame_moments, NonePassedAlong, IsMomentOf, last_moment}
use Rattle.court.proofs.Stays.{advanced_in, start_in}
use Rattle.court.proofs.PassingLemmas.{last-append, along-append, IsBefore, frame_passes_not, frame_ends, before_start}
use Rattle.game.specs.Plain.{plays}
use Rattle.court_game.specs.Games.{court_game}
use Rattle.court_game.specs.Passing.{moments, NoBallPasses, MomentsAreOfTheGame}

game_passes_not : (s : State) (m : Moment) → InCourt s → IsBefore s m → (xs ys : List ℕ) → NonePassedAlong m (moments s xs ys)
unfolding moments NonePassedAlong
game_passes_not s m h i [] ys = tt
game_passes_not s m h i (a ∷ xs) [] = tt
game_passes_not s m h i (a ∷ xs) (b ∷ ys) =
    along-append m (frame_moments s a b) (moments (advanced s a b) xs ys) (frame_passes_not s a b m h i)
    (game_passes_not (advanced s a b) (last_moment m (frame_moments s a b)) (advanced_in s a b h) (frame_ends s a b m h i) xs ys)

game_ends : (s : State) (m : Moment) → InCourt s → IsBefore s m → (xs ys : List ℕ) →
    IsMomentOf (plays court_game s xs ys) (last_moment m (moments s xs ys))
unfolding moments plays last_moment
game_ends s m h i [] ys = i.of_state
game_ends s m h i (a ∷ xs) [] = i.of_state
game_ends s m h i (a ∷ xs) (b ∷ ys) =
    rw (last-append m (frame_moments s a b) (moments (advanced s a b) xs ys))
    (game_ends (advanced s a b) (last_moment m (frame_moments s a b)) (advanced_in s a b h) (frame_ends s a b m h i) xs ys)

pub no_ball_passes : NoBallPasses
no_ball_passes = game_passes_not start (untouched start) start_in before_start

pub moments_are_of_the_game : MomentsAreOfTheGame
moments_are_of_the_game = game_ends start (untouched start) start_in before_start
