-- Lists that are beginnings of others. Assumes nothing.
use Rattle.std.proofs.Common.{◌≡◌, ℕ, ◌-◌, ◌≤◌, List, [], ◌++◌, length, take, drop, sym, refl, ap, ◌∙◌, inl, inr, append_assoc, append-nil, arith, take-append-drop}
use Rattle.std.proofs.lemmas.List.Prefix.{front_fits, front_rest}
use Rattle.std.proofs.lemmas.List.{take-append-le, drop-append-le, drop-drop, drop_all}
use Rattle.std.proofs.lemmas.Bool.{cases_lt}
use Rattle.network.specs.Promise.{Begins}

pub begins_refl : {A : Type 0} (xs : List A) → Begins xs xs
begins_refl xs = ([], sym (append-nil xs))

pub begins_more : {A : Type 0} (xs zs : List A) → Begins xs (xs ++ zs)
begins_more xs zs = (zs, refl)

pub begins_trans : {A : Type 0} (xs ys zs : List A) → Begins xs ys → Begins ys zs → Begins xs zs
begins_trans xs ys zs p q = (p.0 ++ q.0, q.1 ∙ ap (λ w. w ++ q.0) p.1 ∙ append_assoc xs p.0 q.0)

pub begins_length : {A : Type 0} (xs ys : List A) → Begins xs ys → length xs ≤ length ys
begins_length xs ys p = front_fits ys xs p.0 p.1

pub begins_take : {A : Type 0} (k : ℕ) (xs ys : List A) → Begins xs ys → k ≤ length xs → take k ys ≡ take k xs
begins_take k xs ys p h = ap (take k) p.1 ∙ take-append-le k xs p.0 h

pub take_begins : {A : Type 0} (k : ℕ) (xs : List A) → Begins (take k xs) xs
take_begins k xs = (drop k xs, sym (take-append-drop k xs))

pub begins_drop : {A : Type 0} (k : ℕ) (xs ys : List A) → Begins xs ys → Begins (drop k xs) (drop k ys)
begins_drop k xs ys p =
    elim (cases_lt k (length xs)) [
      | inl h ↦ (p.0, ap (drop k) p.1 ∙ drop-append-le k xs p.0 (omega arith))
      | inr h ↦ (drop k ys, ap (λ w. w ++ drop k ys) (sym (drop_all k xs h)))
    ]

-- a part of a list from a place on that its beginning reaches joins on to that beginning
pub begins_join : (all xs part : List ℕ) (at : ℕ) → Begins xs all → Begins part (drop at all) → at ≤ length xs → Begins (xs ++ drop (length xs - at) part) all
begins_join all xs part at p q h =
    let k : ℕ = length xs - at in
    let rest : p.0 ≡ drop k (part ++ q.0) =
    sym (front_rest all xs p.0 p.1) ∙ ap (λ (i : ℕ). drop i all) (omega arith) ∙ sym (drop-drop k at all) ∙ ap (drop k) q.1 in
    elim (cases_lt k (length part)) [
      | inl l ↦ (q.0, p.1 ∙ ap (λ w. xs ++ w) (rest ∙ drop-append-le k part q.0 (omega arith)) ∙ sym (append_assoc xs (drop k part) q.0))
      | inr l ↦ (p.0, p.1 ∙ ap (λ w. w ++ p.0) (sym (ap (λ w. xs ++ w) (drop_all k part l) ∙ append-nil xs)))
    ]
