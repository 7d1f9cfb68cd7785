-- A game stays in the court, and rests once it is over. Assumes nothing.
use Rattle.std.proofs.Common.{ℕ, List, [], ◌∷◌, refl, ap, ◌∙◌}
use Rattle.court.specs.declared.state.State.{State}
use Rattle.court.specs.Frame.{advanced}
use Rattle.court.specs.Bounds.{InCourt}
use Rattle.court.proofs.Stays.{advanced_in, frame_rests}
use Rattle.game.specs.Plain.{plays}
use Rattle.court_game.specs.Games.{court_game, RestsAtNine}

pub plays_in : (s : State) → InCourt s → (xs ys : List ℕ) → InCourt (plays court_game s xs ys)
unfolding plays
plays_in s h [] ys = h
plays_in s h (x ∷ xs) [] = h
plays_in s h (x ∷ xs) (y ∷ ys) = plays_in (advanced s x y) (advanced_in s x y h) xs ys

pub rests : RestsAtNine
unfolding plays
rests s [] ys e = refl
rests s (x ∷ xs) [] e = refl
rests s (x ∷ xs) (y ∷ ys) e = ap (λ t. plays court_game t xs ys) (frame_rests s x y e) ∙ rests s xs ys e
