-- One bit of a number, by a mask and by a quotient. Assumes nothing.
use Rattle.std.proofs.Common.{◌≡◌, ℕ, zero, suc, ◌+◌, ◌*◌, ◌/◌, ◌%◌, ◌^◌, ◌<◌, ◌≤◌, not, eqb, ap, ◌∙◌, arith}
use native.Mathlib.Nat.{div_self, mod_self}
use lib.Bits.{bit_and}
use Rattle.std.proofs.lemmas.Nat.{pow_pos, and_shr, and_mod, and_mask, and_le_r, div-add-mod', mod_below}
use Rattle.std.proofs.lemmas.Bool.{ne_eqb, eq-eqb}

-- a is P or 0, as its quotient by P is 1 or 0
by_quotient : (a P q : ℕ) → 0 < P → a ≡ q * P + 0 → q < 2 → not (eqb a 0) ≡ eqb q 1
by_quotient a P zero p e h = ap not (eq-eqb a 0 (omega arith))
by_quotient a P (suc zero) p e h = ap not (ne_eqb a 0 (λ z. omega (arith, e, p, z)))
by_quotient a P (suc (suc q)) p e h = let no : ⊥ = omega arith in absurd no

pub mask_bit : (h k : ℕ) → not (eqb (bit_and h (2 ^ k)) 0) ≡ eqb ((h / 2 ^ k) % 2) 1
mask_bit h k =
    let a : ℕ = bit_and h (2 ^ k) in
    let p : 0 < 2 ^ k = pow_pos k in
    let up : a / 2 ^ k ≡ (h / 2 ^ k) % 2 = and_shr h (2 ^ k) k ∙ ap (bit_and (h / 2 ^ k)) (div_self p) ∙ and_mask (h / 2 ^ k) 1 in
    let low : a % 2 ^ k ≡ bit_and (h % 2 ^ k) 0 = and_mod h (2 ^ k) k ∙ ap (bit_and (h % 2 ^ k)) (mod_self (2 ^ k)) in
    let none : bit_and (h % 2 ^ k) 0 ≤ 0 = and_le_r (h % 2 ^ k) 0 in
    let all : a / 2 ^ k * 2 ^ k + a % 2 ^ k ≡ a = div-add-mod' a (2 ^ k) in
    let e : a ≡ ((h / 2 ^ k) % 2) * 2 ^ k + 0 = omega (arith, ap (λ q. q * 2 ^ k) up) in
    by_quotient a (2 ^ k) ((h / 2 ^ k) % 2) p e (mod_below (h / 2 ^ k) 2 (omega arith))
