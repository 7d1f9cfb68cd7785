-- Where two rows first differ, as far as both go. Assumes nothing.
use Rattle.std.proofs.Common.{◌≡◌, ℕ, ◌+◌, ◌<◌, ◌≤◌, min, Bool, true, false, not, eqb, List, length, get_or, drop, Some, None, sym, ap, ◌∙◌, inl, inr, arith}
use Rattle.std.specs.List.{position_or_len, zip}
use Rattle.std.proofs.lemmas.Bool.{cases_lt}
use Rattle.std.proofs.lemmas.Bool.Decides.{nat_tests}
use Rattle.std.proofs.lemmas.List.{ext_get_or, get_or-take, get_or-drop}
use Rattle.std.proofs.lemmas.List.Quantifiers.{position-Some}
use Rattle.std.proofs.lemmas.List.Sums.{position_or_len_is, fails_before_first}
use Rattle.std.proofs.lemmas.Slice.Zip.{get_or-zip, length-zip}
use Rattle.byte_numbers.specs.Little.{part}
use Rattle.recording.specs.Reading.{differing}

-- rows that are the same below a place
abbrev pub Alike : List ℕ → List ℕ → ℕ → Type 0
Alike xs ys n = (i : ℕ) → i < n → i < length xs → i < length ys → get_or xs i 0 ≡ get_or ys i 0

-- a byte of a part
pub part_byte : (xs : List ℕ) (n k i : ℕ) → i < k → get_or (part xs n k) i 0 ≡ get_or xs (n + i) 0
part_byte xs n k i h = get_or-take k (drop n xs) i 0 h ∙ get_or-drop n xs i 0

abbrev differ : ℕ × ℕ → Bool
differ p = not (eqb p.0 p.1)

-- how far the rows are the same
abbrev pub same_to : List ℕ → List ℕ → ℕ
same_to xs ys = position_or_len differ (zip xs ys)

-- a pair by its place
pair : (xs ys : List ℕ) (i : ℕ) → i < length xs → i < length ys → differ (get_or (zip xs ys) i (0, 0)) ≡ not (eqb (get_or xs i 0) (get_or ys i 0))
pair xs ys i h k = ap differ (get_or-zip xs ys i (0, 0) h k)

-- ---- what a first difference says, and that there is none

pub same_below : (xs ys : List ℕ) → Alike xs ys (same_to xs ys)
same_below xs ys =
    λ i l a b.
    let same = sym (pair xs ys i a b) ∙ fails_before_first differ (zip xs ys) i (0, 0) l in
    grind (arith, nat_tests)

-- a place where they differ is not before the first
pub not_before : (xs ys : List ℕ) (i : ℕ) → i < length xs → i < length ys → (get_or xs i 0 ≡ get_or ys i 0 → ⊥) → same_to xs ys ≤ i
not_before xs ys i h k differs =
    elim (cases_lt i (same_to xs ys)) [ inl l ↦ absurd (differs (same_below xs ys i l h k)) | inr l ↦ l ]

pub differing_some : (xs ys : List ℕ) (k : ℕ) → differing xs ys ≡ Some k → (k < length xs) × (k < length ys) × (k ≡ same_to xs ys) × (get_or xs k 0 ≡ get_or ys k 0 → ⊥)
differing_some xs ys k e =
    let h = position-Some differ (zip xs ys) k (0, 0) e in
    let n = length-zip xs ys in
    let here = sym (pair xs ys k (omega arith) (omega arith)) ∙ h.1 in
    (omega arith, omega arith, grind (arith, nat_tests), λ same. grind (arith, nat_tests))

pub differs_below : (xs ys : List ℕ) (k : ℕ) → Some k ≡ differing xs ys → k < length xs
differs_below xs ys k e = (differing_some xs ys k (sym e)).0

pub differing_none : (xs ys : List ℕ) → differing xs ys ≡ None → min (length xs) (length ys) ≤ same_to xs ys
differing_none xs ys e = let n = length-zip xs ys in grind (arith, nat_tests)

-- rows of one length that differ nowhere
pub all_same : (xs ys : List ℕ) → length xs ≡ length ys → differing xs ys ≡ None → xs ≡ ys
all_same xs ys e none = let n = differing_none xs ys none in ext_get_or 0 xs ys e (λ i l. same_below xs ys i (omega arith) l (omega arith))

-- ---- and back

first_at : (xs ys : List ℕ) (n : ℕ) → n ≤ min (length xs) (length ys) → Alike xs ys n → (n < length xs → n < length ys → get_or xs n 0 ≡ get_or ys n 0 → ⊥) → same_to xs ys ≡ n
first_at xs ys n h same other =
    let long = length-zip xs ys in
    position_or_len_is differ (zip xs ys) n (0, 0) (omega arith)
    (λ k l.
    let e = same k l (omega arith) (omega arith) in
    let t : not (eqb (get_or xs k 0) (get_or ys k 0)) ≡ false = grind (arith, nat_tests) in
    pair xs ys k (omega arith) (omega arith) ∙ t)
    (λ l.
    let e = other (omega arith) (omega arith) in
    let t : not (eqb (get_or xs n 0) (get_or ys n 0)) ≡ true = grind (arith, nat_tests) in
    pair xs ys n (omega arith) (omega arith) ∙ t)

pub differs_at : (xs ys : List ℕ) (k : ℕ) → k < length xs → k < length ys → Alike xs ys k → (get_or xs k 0 ≡ get_or ys k 0 → ⊥) → differing xs ys ≡ Some k
differs_at xs ys k h l same other =
    let first = first_at xs ys k (omega arith) same (λ _ _. other) in
    let long = length-zip xs ys in
    grind (arith, nat_tests)

pub differs_nowhere : (xs ys : List ℕ) → Alike xs ys (length xs) → differing xs ys ≡ None
differs_nowhere xs ys same =
    let n : ℕ = min (length xs) (length ys) in
    let first = first_at xs ys n (omega arith) (λ i l. same i (omega arith)) (λ a b. absurd (omega arith)) in
    let long = length-zip xs ys in
    grind (arith, nat_tests)
