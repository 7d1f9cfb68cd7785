-- The plain game frame by frame. Assumes nothing.
use Rattle.std.proofs.Common.{◌≡◌, ℕ, zero, suc, ◌+◌, ◌<◌, ◌≤◌, ◌⊎◌, List, [], ◌∷◌, ◌++◌, map, length, get_or, drop, sym, refl, ap, ◌∙◌, inl, inr, arith}
use Rattle.std.proofs.lemmas.List.{drop_all, drop_more}
use Rattle.game.specs.Plain.{Game, plays, seat_0, seat_1, FromSaved}

-- one frame
pub plays_more : {S : Type 0} (g : Game S) (s t : S) (a b : ℕ) (xs ys us vs : List ℕ) → xs ≡ a ∷ us → ys ≡ b ∷ vs → t ≡ g.frame s a b → plays g t us vs ≡ plays g s xs ys
unfolding plays
plays_more g s t a b xs ys us vs e f h =
    ap (λ u. plays g u us vs) h ∙ sym (ap (λ zs. plays g s zs ys) e ∙ ap (plays g s (a ∷ us)) f)

-- a seat has no input left
none_right : {S : Type 0} (g : Game S) (s : S) (xs : List ℕ) → plays g s xs [] ≡ s
unfolding plays
none_right g s [] = refl
none_right g s (x ∷ xs) = refl

pub plays_done : {S : Type 0} (g : Game S) (s : S) (xs ys : List ℕ) → (xs ≡ []) ⊎ (ys ≡ []) → plays g s xs ys ≡ s
unfolding plays
plays_done g s xs ys (inl e) = ap (λ zs. plays g s zs ys) e
plays_done g s xs ys (inr e) = ap (plays g s xs) e ∙ none_right g s xs

-- first some inputs, then more
pub plays_append : {S : Type 0} (g : Game S) (s : S) (xs ys us vs : List ℕ) → length xs ≡ length ys → plays g (plays g s xs ys) us vs ≡ plays g s (xs ++ us) (ys ++ vs)
unfolding plays
plays_append g s [] [] us vs e = refl
plays_append g s [] (y ∷ ys) us vs e = let no : ⊥ = omega arith in absurd no
plays_append g s (x ∷ xs) [] us vs e = let no : ⊥ = omega arith in absurd no
plays_append g s (x ∷ xs) (y ∷ ys) us vs e = plays_append g (g.frame s x y) xs ys us vs (omega arith)

-- frames of one byte: the frame at i, and none behind the last
pub frames_more : {S : Type 0} (g : Game S) (s t : S) (fs : List ℕ) (i : ℕ) → i < length fs → t ≡ g.frame s (seat_0 (get_or fs i 0)) (seat_1 (get_or fs i 0)) → plays g t (map seat_0 (drop (i + 1) fs)) (map seat_1 (drop (i + 1) fs)) ≡ plays g s (map seat_0 (drop i fs)) (map seat_1 (drop i fs))
frames_more g s t fs i h e =
    let d : drop i fs ≡ get_or fs i 0 ∷ drop (i + 1) fs = drop_more fs i 0 h in
    plays_more g s t (seat_0 (get_or fs i 0)) (seat_1 (get_or fs i 0)) (map seat_0 (drop i fs)) (map seat_1 (drop i fs)) (map seat_0 (drop (i + 1) fs)) (map seat_1 (drop (i + 1) fs)) (ap (map seat_0) d) (ap (map seat_1) d) e

pub frames_done : {S : Type 0} (g : Game S) (s : S) (fs : List ℕ) (i : ℕ) → length fs ≤ i → plays g s (map seat_0 (drop i fs)) (map seat_1 (drop i fs)) ≡ s
frames_done g s fs i h = plays_done g s (map seat_0 (drop i fs)) (map seat_1 (drop i fs)) (inl (ap (map seat_0) (drop_all i fs h)))

pub from_saved : (S : Type 0) → FromSaved S
unfolding plays
from_saved S g s zero xs ys = refl
from_saved S g s (suc k) [] ys = refl
from_saved S g s (suc k) (x ∷ xs) [] = none_right g s (drop k xs)
from_saved S g s (suc k) (x ∷ xs) (y ∷ ys) = from_saved S g (g.frame s x y) k xs ys
