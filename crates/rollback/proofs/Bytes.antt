-- Slots in lent bytes. Assumes nothing.
use Rattle.std.proofs.Common.{◌≡◌, ℕ, ◌+◌, ◌-◌, ◌*◌, ◌<◌, ◌≤◌, List, length, get_or, take, drop, sym, ap, ◌∙◌, inl, inr, arith}
use Rattle.std.specs.List.{between}
use Rattle.std.proofs.lemmas.Slice.{between-put_mid, between_is, take-put_mid_below, drop-put_mid}
use Rattle.std.proofs.lemmas.Bool.{cases_order}
use Rattle.peer.proofs.Logs.{get_or_put_mid_other}
use Rattle.rollback.specs.Saved.{slot, with_slot, Behind}

slot_is : (xs : List ℕ) (i : ℕ) → slot xs i ≡ between (i * 64) (i * 64 + 64) xs
unfolding slot
slot_is xs i = let e : (i * 64 + 64) - i * 64 ≡ 64 = omega arith in rw e

-- what was written
pub slot_same : (xs ys bs : List ℕ) (i : ℕ) → ys ≡ with_slot xs i bs → i * 64 + 64 ≤ length xs → length bs ≡ 64 → slot ys i ≡ bs
unfolding with_slot
slot_same xs ys bs i e h l = ap (λ zs. slot zs i) e ∙ slot_is _ i ∙ between-put_mid (i * 64) 64 xs bs (i * 64 + 64) (omega arith) (omega arith)

slot_after : (xs bs : List ℕ) (i j : ℕ) → i * 64 + 64 ≤ length xs → length bs ≡ 64 → i < j → slot (with_slot xs i bs) j ≡ slot xs j
unfolding slot with_slot
slot_after xs bs i j h l gt = ap (take 64) (drop-put_mid (i * 64) 64 xs bs (j * 64) (omega arith) (omega arith) (omega arith))

slot_before : (xs bs : List ℕ) (i j : ℕ) → i * 64 + 64 ≤ length xs → j < i → slot (with_slot xs i bs) j ≡ slot xs j
unfolding with_slot
slot_before xs bs i j h lt =
    slot_is _ j ∙ between_is _ (j * 64) (j * 64 + 64)
    ∙ ap (drop (j * 64)) (take-put_mid_below (i * 64) 64 xs bs (j * 64 + 64) (omega arith) (omega arith))
    ∙ sym (slot_is xs j ∙ between_is xs (j * 64) (j * 64 + 64))

-- every other slot is as it was
pub slot_other : (xs bs : List ℕ) (i j : ℕ) → i * 64 + 64 ≤ length xs → length bs ≡ 64 → (j ≡ i → ⊥) → slot (with_slot xs i bs) j ≡ slot xs j
slot_other xs bs i j h l ne =
    elim (cases_order j i) [
      | inl e ↦ absurd (ne e)
      | inr (inl lt) ↦ slot_before xs bs i j h lt
      | inr (inr gt) ↦ slot_after xs bs i j h l gt
    ]

-- and so is what lies behind the slots
pub slot_behind : (xs ys bs : List ℕ) (i n : ℕ) → ys ≡ with_slot xs i bs → i < n → n * 64 ≤ length xs → length bs ≡ 64 → Behind n xs ys
unfolding with_slot
slot_behind xs ys bs i n e h l m k far = ap (λ zs. get_or zs k 0) e ∙ get_or_put_mid_other (i * 64) 64 xs bs k m (omega arith) (λ out. omega (arith, out.1))
