-- The least of some numbers, and of all but one. Assumes nothing.
use Rattle.std.proofs.Common.{◌≡◌, ℕ, zero, suc, ◌-◌, ◌<◌, ◌≤◌, min, ◌⊎◌, List, [], ◌∷◌, length, get_or, take, drop, set, sym, refl, ap, ◌∙◌, subst, inl, inr, arith, length-append, length-drop, length-take}
use Rattle.std.specs.Prelude.{fold, ◌≢◌}
use Rattle.std.proofs.lemmas.List.{nil_from_length, length-take-le, get_or_append_left, get_or-append_right, get_or-take, get_or-drop, get_or-set_same, get_or-set_other, set_past}
use Rattle.std.proofs.lemmas.Bool.{cases_lt, cases_eq}
use Rattle.seats.specs.Peers.{least, others}

fold_min_le : (a : ℕ) (xs : List ℕ) → fold min a xs ≤ a
fold_min_le a [] = omega arith
fold_min_le a (x ∷ xs) = let h : fold min (min a x) xs ≤ min a x = fold_min_le (min a x) xs in omega arith

fold_min_at : (a : ℕ) (xs : List ℕ) (k : ℕ) → k < length xs → fold min a xs ≤ get_or xs k 0
fold_min_at a [] k h = let no : ⊥ = omega arith in absurd no
fold_min_at a (x ∷ xs) zero h = let l : fold min (min a x) xs ≤ min a x = fold_min_le (min a x) xs in omega arith
fold_min_at a (x ∷ xs) (suc k) h = fold_min_at (min a x) xs k (omega arith)

fold_min_met : (a : ℕ) (xs : List ℕ) → (fold min a xs ≡ a) ⊎ ((k : ℕ) × (k < length xs) × (fold min a xs ≡ get_or xs k 0))
fold_min_met a [] = inl refl
fold_min_met a (x ∷ xs) =
    elim (fold_min_met (min a x) xs) [
      | inl e ↦
          elim (cases_lt x a) [
            | inl l ↦ inr (0, omega arith, omega (arith, e))
            | inr l ↦ inl (omega (arith, e))
          ]
      | inr m ↦ inr (suc m.0, omega (arith, m.1), m.2)
    ]

-- it is none of them, or one
pub least_le : (xs : List ℕ) (k : ℕ) → k < length xs → least xs ≤ get_or xs k 0
unfolding least
least_le [] k h = let no : ⊥ = omega arith in absurd no
least_le (x ∷ xs) zero h = fold_min_le x xs
least_le (x ∷ xs) (suc k) h = fold_min_at x xs k (omega arith)

pub least_met : (xs : List ℕ) → 0 < length xs → (k : ℕ) × (k < length xs) × (least xs ≡ get_or xs k 0)
unfolding least
least_met [] h = let no : ⊥ = omega arith in absurd no
least_met (x ∷ xs) h =
    elim (fold_min_met x xs) [
      | inl e ↦ (0, omega arith, e)
      | inr m ↦ (suc m.0, omega (arith, m.1), m.2)
    ]

-- what is below each is below the least
pub least_from : (m : ℕ) (xs : List ℕ) → 0 < length xs → ((k : ℕ) → k < length xs → m ≤ get_or xs k 0) → m ≤ least xs
least_from m xs h each = let met = least_met xs h in omega (arith, each met.0 met.1, met.2)

pub least_none : (xs : List ℕ) → length xs ≡ 0 → least xs ≡ 0
unfolding least
least_none xs e = ap least (nil_from_length xs e)

pub least_grows : (xs ys : List ℕ) → length xs ≡ length ys → ((k : ℕ) → k < length xs → get_or xs k 0 ≤ get_or ys k 0) → least xs ≤ least ys
least_grows xs ys e each =
    elim (cases_lt 0 (length xs)) [
      | inl some ↦ least_from (least xs) ys (omega arith) (λ k h. omega (arith, each k (omega arith), least_le xs k (omega arith)))
      | inr none ↦ omega (arith, least_none xs (omega arith))
    ]

-- ---- all but one

pub length-others : {A : Type 0} (i : ℕ) (xs : List A) → i < length xs → length (others i xs) ≡ length xs - 1
length-others i xs h = simp (length-append, length-take, length-drop) (omega arith)

others_before : {A : Type 0} (i : ℕ) (xs : List A) (d : A) (k : ℕ) → i < length xs → k < i → get_or (others i xs) k d ≡ get_or xs k d
others_before i xs d k h l =
    let len : length (take i xs) ≡ i = length-take-le i xs (omega arith) in
    get_or_append_left (take i xs) (drop (suc i) xs) d k (omega arith) ∙ get_or-take i xs k d l

others_behind : {A : Type 0} (i : ℕ) (xs : List A) (d : A) (k : ℕ) → i < length xs → i ≤ k → get_or (others i xs) k d ≡ get_or xs (suc k) d
others_behind i xs d k h l =
    get_or-append_right (take i xs) (drop (suc i) xs) i k d (length-take-le i xs (omega arith)) l
    ∙ get_or-drop (suc i) xs (k - i) d
    ∙ ap (λ n. get_or xs n d) (omega arith)

-- each of the others stands somewhere, and each place has one of them
pub others_least : (i : ℕ) (xs : List ℕ) (k : ℕ) → i < length xs → k < length xs → k ≢ i → least (others i xs) ≤ get_or xs k 0
others_least i xs k h l apart =
    elim (cases_lt k i) [
      | inl before ↦ omega (arith, others_before i xs 0 k h before, least_le (others i xs) k (omega (arith, length-others i xs h)))
      | inr behind ↦
          let there : suc (k - 1) ≡ k = omega arith in
          omega (arith, others_behind i xs 0 (k - 1) h (omega arith), ap (λ n. get_or xs n 0) there, least_le (others i xs) (k - 1) (omega (arith, length-others i xs h)))
    ]

pub others_met : (i : ℕ) (xs : List ℕ) → i < length xs → 1 < length xs → (k : ℕ) × (k < length xs) × (k ≢ i) × (least (others i xs) ≡ get_or xs k 0)
others_met i xs h two =
    let met = least_met (others i xs) (omega (arith, length-others i xs h)) in
    let k : ℕ = met.0 in
    let l : k < length xs - 1 = omega (arith, met.1, length-others i xs h) in
    elim (cases_lt k i) [
      | inl before ↦ (k, omega arith, λ e. omega arith, met.2 ∙ others_before i xs 0 k h before)
      | inr behind ↦ (suc k, omega arith, λ e. omega arith, met.2 ∙ others_behind i xs 0 k h behind)
    ]

pub others_grows : (i : ℕ) (xs ys : List ℕ) → i < length xs → length xs ≡ length ys → ((k : ℕ) → k < length xs → k ≢ i → get_or xs k 0 ≤ get_or ys k 0) → least (others i xs) ≤ least (others i ys)
others_grows i xs ys h e each =
    elim (cases_lt 1 (length xs)) [
      | inl two ↦
          let met = others_met i ys (omega arith) (omega arith) in
          omega (arith, met.3, each met.0 (omega (arith, met.1)) met.2, others_least i xs met.0 h (omega (arith, met.1)) met.2)
      | inr one ↦ omega (arith, least_none (others i xs) (omega (arith, length-others i xs h)))
    ]

-- ---- one place of a list

pub at_set : {A : Type 0} (xs : List A) (i : ℕ) (v d : A) (j : ℕ) (P : A → Type 0) → P (get_or xs j d) → (j ≡ i → P v) → P (get_or (set xs i v) j d)
at_set xs i v d j P same new =
    elim (cases_eq j i) [
      | inl e ↦
          elim (cases_lt i (length xs)) [
            | inl l ↦ subst P (sym (ap (λ n. get_or (set xs i v) n d) e ∙ get_or-set_same xs i v d l)) (new e)
            | inr l ↦ subst (λ ys. P (get_or ys j d)) (sym (set_past xs i v l)) same
          ]
      | inr e ↦ subst P (sym (get_or-set_other xs i j v d e)) same
    ]
