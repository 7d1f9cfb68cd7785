-- Rows, and how they make the picture. Assumes nothing.
use Rattle.std.proofs.Common.{◌≡◌, ℕ, zero, suc, ◌+◌, ◌-◌, ◌*◌, ◌<◌, List, [], ◌++◌, length, get_or, drop, sym, refl, ap, ◌∙◌, append_assoc, add-zero, zero-add, add-one, arith}
use borrow.Rule.Slice.PartMut.{put_mid}
use Rattle.std.proofs.lemmas.List.{append-nil, length-append, ext_get_or, get_or_append_left, get_or-append_right, take_at, drop_at, drop-drop}
use Rattle.court.specs.declared.state.State.{State}
use Rattle.picture.specs.Picture.{dot, row_of, rows_of}

pub length_row : (s : State) (j i n : ℕ) → length (row_of s j i n) ≡ n
unfolding row_of
length_row s j i zero = refl
length_row s j i (suc n) = ap suc (length_row s j (suc i) n)

pub row_at : (s : State) (j i n k : ℕ) → k < n → get_or (row_of s j i n) k 0 ≡ dot s (i + k) j
unfolding row_of
row_at s j i zero k h = let no : ⊥ = omega arith in absurd no
row_at s j i (suc n) zero h = ap (λ q. dot s q j) (sym (add-zero i))
row_at s j i (suc n) (suc k) h =
    let l : k < n = omega arith in let e : suc i + k ≡ i + suc k = omega arith in row_at s j (suc i) n k l ∙ ap (λ q. dot s q j) e

pub row_from : (s : State) (j : ℕ) (xs : List ℕ) → length xs ≡ 160 → ((i : ℕ) → i < 160 → get_or xs i 0 ≡ dot s i j) → xs ≡ row_of s j 0 160
row_from s j xs n f =
    ext_get_or 0 xs (row_of s j 0 160) (n ∙ sym (length_row s j 0 160))
    (λ i h. let l : i < 160 = omega arith in f i l ∙ sym (row_at s j 0 160 i l ∙ ap (λ q. dot s q j) (zero-add i)))

pub length_rows : (s : State) (j n : ℕ) → length (rows_of s j n) ≡ 160 * n
unfolding rows_of
length_rows s j zero = refl
length_rows s j (suc n) =
    let a = length-append (row_of s j 0 160) (rows_of s (suc j) n) in let b = length_row s j 0 160 in let c = length_rows s (suc j) n in omega arith

rows_suc : (s : State) (j n : ℕ) → rows_of s j (suc n) ≡ rows_of s j n ++ row_of s (j + n) 0 160
unfolding rows_of
rows_suc s j zero = append-nil (row_of s j 0 160) ∙ ap (λ q. row_of s q 0 160) (sym (add-zero j))
rows_suc s j (suc n) =
    let e : suc j + n ≡ j + suc n = omega arith in
    ap (λ l. row_of s j 0 160 ++ l) (rows_suc s (suc j) n ∙ ap (λ q. rows_of s (suc j) n ++ row_of s q 0 160) e)
    ∙ sym (append_assoc (row_of s j 0 160) (rows_of s (suc j) n) (row_of s (j + suc n) 0 160))

pub rows_more : (s : State) (n : ℕ) → rows_of s 0 (n + 1) ≡ rows_of s 0 n ++ row_of s n 0 160
rows_more s n = ap (rows_of s 0) (add-one n) ∙ rows_suc s 0 n ∙ ap (λ q. rows_of s 0 n ++ row_of s q 0 160) (zero-add n)

pub rows_none : (s : State) → rows_of s 0 0 ≡ []
unfolding rows_of
rows_none s = refl

-- a row written into its place
pub joins : (s : State) (e ys : List ℕ) (j : ℕ) → ys ≡ row_of s j 0 160 → put_mid (160 * j) 160 (rows_of s 0 j ++ drop (160 * j) e) ys ≡ rows_of s 0 (j + 1) ++ drop (160 * (j + 1)) e
joins s e ys j h =
    let t = take_at (rows_of s 0 j) (drop (160 * j) e) (160 * j) (length_rows s 0 j) in
    let d = drop_at (rows_of s 0 j) (drop (160 * j) e) (160 * j) (length_rows s 0 j) in
    let a : 160 * j + 160 ≡ 160 * (j + 1) = omega arith in
    let q : drop 160 (drop (160 * j) (rows_of s 0 j ++ drop (160 * j) e)) ≡ drop (160 * (j + 1)) e = ap (drop 160) d ∙ drop-drop 160 (160 * j) e ∙ ap (λ k. drop k e) a in
    ap (λ l. l ++ (ys ++ drop 160 (drop (160 * j) (rows_of s 0 j ++ drop (160 * j) e)))) t
    ∙ ap (λ l. rows_of s 0 j ++ l) (ap (λ l. ys ++ l) q ∙ ap (λ l. l ++ drop (160 * (j + 1)) e) h)
    ∙ sym (append_assoc (rows_of s 0 j) (row_of s j 0 160) (drop (160 * (j + 1)) e))
    ∙ ap (λ l. l ++ drop (160 * (j + 1)) e) (sym (rows_more s j))

-- a dot in a row
pub rows_at : (s : State) (j n k i : ℕ) → i < 160 → k < n → get_or (rows_of s j n) (160 * k + i) 0 ≡ dot s i (j + k)
unfolding rows_of
rows_at s j zero k i h l = let no : ⊥ = omega arith in absurd no
rows_at s j (suc n) zero i h l =
    let m = length_row s j 0 160 in
    let e : 160 * 0 + i ≡ i = omega arith in
    ap (λ q. get_or (row_of s j 0 160 ++ rows_of s (suc j) n) q 0) e
    ∙ get_or_append_left (row_of s j 0 160) (rows_of s (suc j) n) 0 i (omega arith)
    ∙ row_at s j 0 160 i h ∙ ap (λ q. dot s q j) (zero-add i) ∙ ap (dot s i) (sym (add-zero j))
rows_at s j (suc n) (suc k) i h l =
    let e : (160 * suc k + i) - 160 ≡ 160 * k + i = omega arith in
    let f : suc j + k ≡ j + suc k = omega arith in
    get_or-append_right (row_of s j 0 160) (rows_of s (suc j) n) 160 (160 * suc k + i) 0 (length_row s j 0 160) (omega arith)
    ∙ ap (λ q. get_or (rows_of s (suc j) n) q 0) e ∙ rows_at s (suc j) n k i h (omega arith) ∙ ap (dot s i) f
