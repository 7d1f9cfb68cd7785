-- Inputs of the other that came, and what was predicted before. Assumes nothing.
use Rattle.std.proofs.Common.{◌≡◌, ℕ, zero, suc, ◌+◌, ◌-◌, ◌<◌, ◌≤◌, ◌==◌, List, [], ◌∷◌, length, get_or, sym, ap, ◌∙◌, inl, inr, arith}
use Rattle.std.proofs.lemmas.Bool.{cases_lt, lt-ltb, le-ltb, eq-eqb, ne_eqb}
use Rattle.std.specs.List.{common_prefix_len}
use Rattle.game.specs.Plain.{Game}
use Rattle.peer.specs.declared.numbers.Peer.{Peer}
use Rattle.peer.specs.Lent.{Long, log_of, own_at, other_at, after}
use Rattle.peer.specs.Peers.{predicted, AsPredicted, to_play}
use Rattle.peer.proofs.Logs.{own_long, other_long}
use Rattle.peer.proofs.Shows.{state_same, predicted_long, predicted_at, predicted_same}

-- ---- what is taken for a frame

-- where the inputs that came stay, so does what is taken
pub other_same : (xs ys : List ℕ) (b i : ℕ) → ((j : ℕ) → j < b → get_or ys (1000000 + j) 0 ≡ get_or xs (1000000 + j) 0) → other_at b xs i ≡ other_at b ys i
unfolding other_at
other_same xs ys b i same =
    elim (cases_lt i b) [
      | inl h ↦ simp (lt-ltb i b h, same i h)
      | inr h ↦
          elim (cases_lt 0 b) [
            | inl k ↦ simp (le-ltb i b h, lt-ltb 0 b k, same (b - 1) (omega arith))
            | inr k ↦ simp (le-ltb i b h, le-ltb 0 b k)
          ]
    ]

-- an input that came is taken as it is
pub other_came : (xs : List ℕ) (b i : ℕ) → i < b → other_at b xs i ≡ get_or xs (1000000 + i) 0
unfolding other_at
other_came xs b i h = simp (lt-ltb i b h)

-- a prediction does not depend on the frame
other_late : (xs : List ℕ) (b i j : ℕ) → b ≤ i → b ≤ j → other_at b xs i ≡ other_at b xs j
unfolding other_at
other_late xs b i j h k = simp (le-ltb i b h, le-ltb j b k)

-- it is the last input that came
other_last : (xs : List ℕ) (b i : ℕ) → b ≤ i → 0 < b → other_at b xs i ≡ get_or xs (1000000 + (b - 1)) 0
unfolding other_at
other_last xs b i h k = simp (le-ltb i b h, lt-ltb 0 b k)

-- where the new inputs below w are as they were predicted, all that is taken below w is as it was
pub other_right : (xs : List ℕ) (b b' w : ℕ) → b ≤ b' → ((i : ℕ) → b ≤ i → i < w → i < b' → get_or xs (1000000 + i) 0 ≡ other_at b xs i) → (i : ℕ) → i < w → other_at b xs i ≡ other_at b' xs i
other_right xs b b' w le right i lt =
    elim (cases_lt i b) [
      | inl h ↦ other_came xs b i h ∙ sym (other_came xs b' i (omega arith))
      | inr h ↦
          elim (cases_lt i b') [
            | inl k ↦ sym (right i h lt k) ∙ sym (other_came xs b' i k)
            | inr k ↦
                elim (cases_lt b b') [
                  | inl s ↦
                      other_late xs b i (b' - 1) h (omega arith)
                      ∙ sym (right (b' - 1) (omega arith) (omega arith) (omega arith))
                      ∙ sym (other_last xs b' i k (omega arith))
                  | inr s ↦ let e : b ≡ b' = omega arith in ap (λ m. other_at m xs i) e
                ]
          ]
    ]

-- states by inputs that stay
pub after_same : {S : Type 0} (g : Game S) (xs ys : List ℕ) (b b' k : ℕ) → ((i : ℕ) → i < k → get_or ys i 0 ≡ get_or xs i 0) → ((i : ℕ) → i < k → other_at b xs i ≡ other_at b' ys i) → after g xs b k ≡ after g ys b' k
unfolding own_at
after_same g xs ys b b' k own other = state_same g _ _ _ _ k (λ i h. sym (own i h)) other

-- ---- how many frames have to be played

common_is : (xs ys : List ℕ) (w : ℕ) → length xs ≡ length ys → w ≤ length xs → ((i : ℕ) → i < w → get_or xs i 0 ≡ get_or ys i 0) → (w < length xs → get_or xs w 0 ≡ get_or ys w 0 → ⊥) → common_prefix_len ◌==◌ xs ys ≡ w
common_is [] ys w e h same other = omega arith
common_is (x ∷ xs) [] w e h same other = let none : ⊥ = omega arith in absurd none
common_is (x ∷ xs) (y ∷ ys) zero e h same other = simp (ne_eqb x y (other (omega arith)))
common_is (x ∷ xs) (y ∷ ys) (suc w) e h same other =
    let more = common_is xs ys w (omega arith) (omega arith) (λ i k. same (suc i) (omega arith)) (λ k. other (omega arith)) in simp (eq-eqb x y (same 0 (omega arith))) (omega arith)

-- those from the first frame on for which something else is taken
pub to_play_is : (p q : Peer) (xs ys : List ℕ) (w : ℕ) → Long xs → Long ys → q.own ≡ p.own → w ≤ p.own → ((i : ℕ) → i < w → other_at p.other xs i ≡ other_at q.other ys i) → (w < p.own → other_at p.other xs w ≡ other_at q.other ys w → ⊥) → to_play (log_of p xs) (log_of q ys) + w ≡ p.own
to_play_is p q xs ys w lx ly e h same other =
    let a = predicted_long p xs lx in
    let b = predicted_long q ys ly in
    let n = own_long q ys ly in
    let first : common_prefix_len ◌==◌ (predicted (log_of p xs)) (predicted (log_of q ys)) ≡ w =
    common_is (predicted (log_of p xs)) (predicted (log_of q ys)) w (omega arith) (omega arith)
    (λ i k. predicted_at p xs i lx (omega arith) ∙ same i k ∙ sym (predicted_at q ys i ly (omega arith)))
    (λ k d. other (omega arith) (sym (predicted_at p xs w lx (omega arith)) ∙ d ∙ predicted_at q ys w ly (omega arith))) in
    omega arith

-- where what comes is what was predicted, all that is taken stays
pub taken_same : (p q : Peer) (xs ys : List ℕ) (i : ℕ) → Long xs → Long ys → i < p.own → p.other ≤ q.other → (log_of q ys).own ≡ (log_of p xs).own → AsPredicted (log_of p xs) (log_of q ys) → other_at p.other xs i ≡ other_at q.other ys i
taken_same p q xs ys i lx ly h more own right =
    let a = own_long p xs lx in
    let b = own_long q ys ly in
    let c = other_long p xs lx in
    let d = other_long q ys ly in
    let long : length (log_of q ys).own ≡ length (log_of p xs).own = ap length own in
    let same : predicted (log_of q ys) ≡ predicted (log_of p xs) = predicted_same (log_of p xs) (log_of q ys) own (omega arith) right in
    sym (predicted_at p xs i lx h) ∙ sym (ap (λ zs. get_or zs i 0) same) ∙ predicted_at q ys i ly (omega arith)
