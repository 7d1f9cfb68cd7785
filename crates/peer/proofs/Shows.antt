-- What a peer shows, by inputs as functions of the frame. Assumes nothing.
use Rattle.std.proofs.Common.{◌≡◌, ℕ, zero, suc, ◌+◌, ◌-◌, ◌<◌, ◌≤◌, List, [], ◌∷◌, ◌++◌, length, get_or, take, drop, sym, refl, ap, ◌∙◌, inl, inr, add-one, arith, length-drop, le-ltb, lt-ltb}
use Rattle.std.proofs.lemmas.List.{nil_from_length, get_or-take, get_or-drop, take_all, take_more, length-take-le}
use Rattle.std.proofs.lemmas.Bool.{cases_lt}
use Rattle.game.specs.Plain.{Game, plays}
use Rattle.game.specs.Seats.{in_order}
use Rattle.game.specs.declared.seat.Seat.{Seat}
use Rattle.game.specs.declared.seat.Seat.TheVariants.{Left, Right}
use Rattle.game.proofs.Plays.{plays_append}
use Rattle.peer.specs.declared.numbers.Peer.{Peer}
use Rattle.peer.specs.Lent.{Long, log_of, seated, state_at, own_at, other_at, after}
use Rattle.peer.specs.Peers.{Log, filled, predicted, AsPredicted, shows}
use Rattle.peer.proofs.Logs.{own_long}

-- ---- states by inputs

-- a state depends on the inputs of the frames before it alone
pub state_same : {S : Type 0} (g : Game S) (f f' h h' : ℕ → ℕ) (k : ℕ) → ((i : ℕ) → i < k → f i ≡ f' i) → ((i : ℕ) → i < k → h i ≡ h' i) → state_at g f h k ≡ state_at g f' h' k
unfolding state_at
state_same g f f' h h' zero p q = refl
state_same g f f' h h' (suc k) p q =
    let e : state_at g f h k ≡ state_at g f' h' k = state_same g f f' h h' k (λ i l. p i (omega arith)) (λ i l. q i (omega arith)) in
    let ef = p k (omega arith) in
    let eh = q k (omega arith) in
    cc

-- no frame yet
pub after_none : {S : Type 0} (seat : Seat) (g : Game S) (inputs : List ℕ) (b : ℕ) → after (seated seat g) inputs b 0 ≡ g.start
unfolding state_at
after_none Left g inputs b = refl
after_none Right g inputs b = refl

-- one frame more
pub after_more : {S : Type 0} (g : Game S) (inputs : List ℕ) (b k : ℕ) → after g inputs b (k + 1) ≡ g.frame (after g inputs b k) (own_at inputs k) (other_at b inputs k)
unfolding state_at
after_more g inputs b k = rw add-one

-- the inputs of a frame, seat 0's first
pub seated_frame : {S : Type 0} (seat : Seat) (g : Game S) (s : S) (own other : ℕ) → g.frame s (in_order seat own other).0 (in_order seat own other).1 ≡ (seated seat g).frame s own other
seated_frame Left g s own other = refl
seated_frame Right g s own other = refl

plays_at : {S : Type 0} (g : Game S) (xs ys : List ℕ) (k : ℕ) → k ≤ length xs → k ≤ length ys → plays g g.start (take k xs) (take k ys) ≡ state_at g (λ i. get_or xs i 0) (λ i. get_or ys i 0) k
unfolding plays state_at
plays_at g xs ys zero l m = refl
plays_at g xs ys (suc k) l m =
    let ex : take (suc k) xs ≡ take k xs ++ get_or xs k 0 ∷ [] = rw add-one at (take_more xs k 0 (omega arith)) in
    let ey : take (suc k) ys ≡ take k ys ++ get_or ys k 0 ∷ [] = rw add-one at (take_more ys k 0 (omega arith)) in
    let lx = length-take-le k xs (omega arith) in
    let ly = length-take-le k ys (omega arith) in
    ap (λ zs. plays g g.start zs (take (suc k) ys)) ex
    ∙ ap (plays g g.start (take k xs ++ get_or xs k 0 ∷ [])) ey
    ∙ sym (plays_append g g.start (take k xs) (take k ys) (get_or xs k 0 ∷ []) (get_or ys k 0 ∷ []) (omega arith))
    ∙ ap (λ s. g.frame s (get_or xs k 0) (get_or ys k 0)) (plays_at g xs ys k (omega arith) (omega arith))

-- ---- inputs that are predicted

length_filled : (m d : ℕ) (xs : List ℕ) → length (filled m d xs) ≡ m
unfolding filled
length_filled zero d xs = refl
length_filled (suc m) d [] = ap suc (length_filled m d [])
length_filled (suc m) d (x ∷ xs) = ap suc (length_filled m x xs)

filled_came : (m d : ℕ) (xs : List ℕ) (i : ℕ) → i < m → i < length xs → get_or (filled m d xs) i 0 ≡ get_or xs i 0
unfolding filled
filled_came zero d xs i h k = let no : ⊥ = omega arith in absurd no
filled_came (suc m) d [] i h k = let no : ⊥ = omega arith in absurd no
filled_came (suc m) d (x ∷ xs) zero h k = refl
filled_came (suc m) d (x ∷ xs) (suc i) h k = filled_came m x xs i (omega arith) (omega arith)

filled_none : (m d i : ℕ) → i < m → get_or (filled m d []) i 0 ≡ d
unfolding filled
filled_none zero d i h = let no : ⊥ = omega arith in absurd no
filled_none (suc m) d zero h = refl
filled_none (suc m) d (suc i) h = filled_none m d i (omega arith)

filled_last : (m d : ℕ) (xs : List ℕ) (i : ℕ) → i < m → length xs ≤ i → 0 < length xs → get_or (filled m d xs) i 0 ≡ get_or xs (length xs - 1) 0
unfolding filled
filled_last zero d xs i h k p = let no : ⊥ = omega arith in absurd no
filled_last (suc m) d [] i h k p = let no : ⊥ = omega arith in absurd no
filled_last (suc m) d (x ∷ xs) zero h k p = let no : ⊥ = omega arith in absurd no
filled_last (suc m) d (x ∷ []) (suc i) h k p = filled_none m x i (omega arith)
filled_last (suc m) d (x ∷ (y ∷ ys)) (suc i) h k p =
    let e : length (y ∷ ys) - 1 ≡ length ys = omega arith in
    let f : length (x ∷ (y ∷ ys)) - 1 ≡ suc (length ys) = omega arith in
    filled_last m x (y ∷ ys) i (omega arith) (omega arith) (omega arith) ∙ ap (λ n. get_or (y ∷ ys) n 0) e ∙ sym (ap (λ n. get_or (x ∷ (y ∷ ys)) n 0) f)

-- inputs that come as they were predicted leave the prediction as it was
filled_same : (m d : ℕ) (xs ys : List ℕ) → length xs ≤ length ys → take m ys ≡ take (length ys) (filled m d xs) → filled m d ys ≡ filled m d xs
unfolding filled
filled_same zero d xs ys l e = refl
filled_same (suc m) d [] [] l e = refl
filled_same (suc m) d (x ∷ xs) [] l e = let no : ⊥ = omega arith in absurd no
filled_same (suc m) d [] (y ∷ ys) l e =
    let first : y ≡ d = ap (λ zs. get_or zs 0 0) e in
    let rest : filled m d ys ≡ filled m d [] = filled_same m d [] ys (omega arith) (ap (drop 1) e) in
    cc
filled_same (suc m) d (x ∷ xs) (y ∷ ys) l e =
    let first : y ≡ x = ap (λ zs. get_or zs 0 0) e in
    let rest : filled m x ys ≡ filled m x xs = filled_same m x xs ys (omega arith) (ap (drop 1) e) in
    cc

-- and only these do: the first inputs of a prediction are those that came
came_filled : (m d : ℕ) (xs : List ℕ) → take m xs ≡ take (length xs) (filled m d xs)
unfolding filled
came_filled zero d [] = refl
came_filled zero d (x ∷ xs) = refl
came_filled (suc m) d [] = refl
came_filled (suc m) d (x ∷ xs) = ap (λ zs. x ∷ zs) (came_filled m x xs)

pub predicted_came : (before after : Log) → after.own ≡ before.own → predicted after ≡ predicted before → AsPredicted before after
predicted_came before after e same =
    ap (λ zs. take (length zs) after.other) (sym e)
    ∙ came_filled (length after.own) 0 after.other
    ∙ ap (take (length after.other)) same

pub predicted_same : (before after : Log) → after.own ≡ before.own → length before.other ≤ length after.other → AsPredicted before after → predicted after ≡ predicted before
predicted_same before after e l right =
    ap (λ zs. filled (length zs) 0 after.other) e ∙ filled_same (length before.own) 0 before.other after.other l right

-- the other's inputs in lent memory, predicted where they have not come, frame by frame
filled_is : (inputs : List ℕ) (a b i : ℕ) → 1000000 + b ≤ length inputs → i < a → get_or (filled a 0 (take b (drop 1000000 inputs))) i 0 ≡ other_at b inputs i
unfolding other_at
filled_is inputs a b i l h =
    let xs : List ℕ = take b (drop 1000000 inputs) in
    let len : length xs ≡ b = length-take-le b (drop 1000000 inputs) (simp length-drop (omega arith)) in
    let here : (j : ℕ) → j < b → get_or xs j 0 ≡ get_or inputs (1000000 + j) 0 = λ j lt. get_or-take b (drop 1000000 inputs) j 0 lt ∙ get_or-drop 1000000 inputs j 0 in
    elim (cases_lt i b) [
      | inl lt ↦ simp (lt-ltb i b lt) (filled_came a 0 xs i h (omega arith) ∙ here i lt)
      | inr ge ↦
          elim (cases_lt 0 b) [
            | inl some ↦ simp (le-ltb i b ge, lt-ltb 0 b some) (filled_last a 0 xs i h (omega arith) (omega arith) ∙ ap (λ n. get_or xs (n - 1) 0) len ∙ here (b - 1) (omega arith))
            | inr none ↦
                let empty : xs ≡ [] = nil_from_length xs (omega arith) in
                simp (le-ltb i b ge, le-ltb 0 b none) (ap (λ ys. get_or (filled a 0 ys) i 0) empty ∙ filled_none a 0 i h)
          ]
    ]

own_input : (p : Peer) (inputs : List ℕ) (i : ℕ) → i < p.own → get_or (log_of p inputs).own i 0 ≡ get_or inputs i 0
unfolding log_of
own_input p inputs i h = get_or-take p.own inputs i 0 h

-- what a peer has of the other's inputs and predicts, frame by frame
pub predicted_long : (p : Peer) (inputs : List ℕ) → Long inputs → length (predicted (log_of p inputs)) ≡ p.own
predicted_long p inputs l = length_filled (length (log_of p inputs).own) 0 (log_of p inputs).other ∙ own_long p inputs l

pub predicted_at : (p : Peer) (inputs : List ℕ) (i : ℕ) → Long inputs → i < p.own → get_or (predicted (log_of p inputs)) i 0 ≡ other_at p.other inputs i
unfolding log_of
predicted_at p inputs i l h =
    let few = p.few in
    filled_is inputs (length (take p.own inputs)) p.other i (omega arith) (let n : length (take p.own inputs) ≡ p.own = own_long p inputs l in omega arith)

-- ---- what is shown

-- the state after k frames is the plain game with the first k inputs
pub after_plays : {S : Type 0} (g : Game S) (p : Peer) (inputs : List ℕ) (k : ℕ) → Long inputs → k ≤ p.own → after g inputs p.other k ≡ plays g g.start (take k (log_of p inputs).own) (take k (predicted (log_of p inputs)))
unfolding own_at
after_plays g p inputs k l h =
    let own : List ℕ = (log_of p inputs).own in
    let fill : List ℕ = predicted (log_of p inputs) in
    let n = own_long p inputs l in
    let m = predicted_long p inputs l in
    sym
    (plays_at g own fill k (omega arith) (omega arith)
    ∙ state_same g (λ i. get_or own i 0) (λ i. get_or inputs i 0) (λ i. get_or fill i 0) (other_at p.other inputs) k (λ i lt. own_input p inputs i (omega arith)) (λ i lt. predicted_at p inputs i l (omega arith)))

-- from seat 0
left_is : {S : Type 0} (g : Game S) (p : Peer) (inputs : List ℕ) → Long inputs → after g inputs p.other p.own ≡ shows g Left (log_of p inputs)
unfolding shows
left_is g p inputs l =
    let n = own_long p inputs l in
    let m = predicted_long p inputs l in
    after_plays g p inputs p.own l (omega arith)
    ∙ ap (λ zs. plays g g.start zs (take p.own (predicted (log_of p inputs)))) (take_all p.own (log_of p inputs).own (omega arith))
    ∙ ap (plays g g.start (log_of p inputs).own) (take_all p.own (predicted (log_of p inputs)) (omega arith))

-- seat 1 has the same game with the inputs exchanged
plays_seated : {S : Type 0} (g : Game S) (s : S) (xs ys : List ℕ) → plays (seated Right g) s xs ys ≡ plays g s ys xs
unfolding plays
plays_seated g s [] [] = refl
plays_seated g s [] (y ∷ ys) = refl
plays_seated g s (x ∷ xs) [] = refl
plays_seated g s (x ∷ xs) (y ∷ ys) = plays_seated g (g.frame s y x) xs ys

pub shows_seated : {S : Type 0} (seat : Seat) (g : Game S) (log : Log) → shows (seated seat g) Left log ≡ shows g seat log
unfolding shows
shows_seated Left g log = refl
shows_seated Right g log = plays_seated g g.start log.own (predicted log)

pub shown_is : {S : Type 0} (seat : Seat) (g : Game S) (p : Peer) (inputs : List ℕ) → Long inputs → after (seated seat g) inputs p.other p.own ≡ shows g seat (log_of p inputs)
shown_is seat g p inputs l = left_is (seated seat g) p inputs l ∙ shows_seated seat g (log_of p inputs)
