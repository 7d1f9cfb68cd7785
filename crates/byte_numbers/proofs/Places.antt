-- Bytes at a place of a list. Assumes nothing.
use Rattle.std.proofs.Common.{◌≡◌, ℕ, zero, suc, ◌+◌, ◌*◌, ◌/◌, ◌%◌, ◌<◌, ◌≤◌, List, ◌∷◌, ◌++◌, length, get_or, take, drop, sym, refl, ap, ◌∙◌, arith}
use borrow.Rule.Slice.PartMut.{put_mid}
use Rattle.std.proofs.lemmas.List.{append_assoc, append-nil, drop_all, drop_at, drop-drop, drop_more, length-append, length-take-le, take-append-drop, take_at}
use Rattle.byte_numbers.specs.Little.{little, number_of, part, overwritten}

-- the first byte of a part, and the others
pub part_more : (xs : List ℕ) (at n : ℕ) → at < length xs → part xs at (suc n) ≡ get_or xs at 0 ∷ part xs (at + 1) n
part_more xs at n h = ap (take (suc n)) (drop_more xs at 0 h)

-- the number that a part says, from the number that the part behind its first byte says
pub number_more : (xs : List ℕ) (at next n : ℕ) → next ≡ at + 1 → at < length xs → number_of (part xs at (suc n)) ≡ get_or xs at 0 + 256 * number_of (part xs next n)
number_more xs at next n e h =
    ap number_of (part_more xs at n h) ∙ ap (λ i. get_or xs at 0 + 256 * number_of (part xs i n)) (sym e)

-- a part of bytes is the bytes of the number that it says
pub little_part : (xs : List ℕ) (n at : ℕ) → at + n ≤ length xs → ((i : ℕ) → get_or xs i 0 < 256) → little n (number_of (part xs at n)) ≡ part xs at n
little_part xs zero at h b = refl
little_part xs (suc n) at h b =
    let v : ℕ = number_of (part xs (at + 1) n) in
    let low : get_or xs at 0 < 256 = b at in
    let e : number_of (part xs at (suc n)) ≡ get_or xs at 0 + 256 * v = number_more xs at (at + 1) n refl (omega arith) in
    let r : number_of (part xs at (suc n)) % 256 ≡ get_or xs at 0 = omega arith in
    let q : number_of (part xs at (suc n)) / 256 ≡ v = omega arith in
    let rest : little n v ≡ part xs (at + 1) n = little_part xs n (at + 1) (omega arith) b in
    let p = part_more xs at n (omega arith) in
    cc

-- a list from a place on: a part, and what lies behind it
pub part_rest : (xs : List ℕ) (at n to : ℕ) → at + n ≡ to → drop at xs ≡ part xs at n ++ drop to xs
part_rest xs at n to e = sym (take-append-drop n (drop at xs)) ∙ ap (λ z. part xs at n ++ z) (drop-drop n at xs ∙ ap (λ k. drop k xs) e)

-- a write to a part of a slice, as the code does it
pub put_is : (at k : ℕ) (xs ys bs : List ℕ) → ys ≡ bs → length bs ≡ k → put_mid at k xs ys ≡ overwritten xs at bs
put_is at k xs ys bs e n =
    ap (λ z. take at xs ++ (z ++ drop k (drop at xs))) e
    ∙ ap (λ z. take at xs ++ (bs ++ z)) (drop-drop k at xs ∙ ap (λ m. drop (at + m) xs) (sym n))

-- one write behind the other is one write of both
pub put_both : (xs cs bs : List ℕ) (at to : ℕ) → at + length cs ≡ to → at ≤ length xs → overwritten (overwritten xs at cs) to bs ≡ overwritten xs at (cs ++ bs)
put_both xs cs bs at to e h =
    let front : List ℕ = take at xs ++ cs in
    let rest : List ℕ = drop (at + length cs) xs in
    let n : length front ≡ to = length-append (take at xs) cs ∙ ap (λ k. k + length cs) (length-take-le at xs h) ∙ e in
    let m : at + length cs + length bs ≡ at + length (cs ++ bs) = simp length-append (omega arith) in
    let d : drop (to + length bs) (front ++ rest) ≡ drop (at + length (cs ++ bs)) xs =
    sym (drop-drop (length bs) to (front ++ rest)) ∙ ap (drop (length bs)) (drop_at front rest to n) ∙ drop-drop (length bs) (at + length cs) xs ∙ ap (λ k. drop k xs) m in
    ap (λ zs. overwritten zs to bs) (sym (append_assoc (take at xs) cs rest))
    ∙ ap (λ z. z ++ (bs ++ drop (to + length bs) (front ++ rest))) (take_at front rest to n)
    ∙ ap (λ z. front ++ (bs ++ z)) d
    ∙ append_assoc (take at xs) cs _
    ∙ ap (λ z. take at xs ++ z) (sym (append_assoc cs bs _))

-- a write over all
pub put_all : (xs bs : List ℕ) → length bs ≡ length xs → overwritten xs 0 bs ≡ bs
put_all xs bs e = ap (λ z. bs ++ z) (drop_all (0 + length bs) xs (omega arith)) ∙ append-nil bs
