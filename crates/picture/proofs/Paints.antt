-- What painters leave at a place of a row. Assumes nothing.
use Rattle.std.proofs.Common.{◌≡◌, ℕ, zero, suc, ◌+◌, ◌-◌, ◌/◌, ◌%◌, ◌<◌, Bool, true, false, cond, ◌&&◌, ◌||◌, not, eqb, List, [], length, get_or, set, replicate, sym, refl, ap, ◌∙◌, arith}
use lib.Bits.{bit_and}
use Rattle.std.proofs.lemmas.List.{places, get_or_past, get_or-replicate, get_or-set_same, length-replicate}
use Rattle.std.proofs.lemmas.Bool.{cases_eq, cases_lt}
use Rattle.std.proofs.lemmas.Bool.Decides.{nat_tests}
use Rattle.court.specs.declared.state.State.{State}
use Rattle.court.proofs.Bits.{mask_bit}
use Rattle.picture.specs.Areas.{in_run, Covered}
use Rattle.picture.specs.Picture.{glyphs, in_bits, in_digit, in_score, on_line, dot}
use Rattle.picture.specs.declared.areas.Areas.{Areas}

pub set_is : (xs : List ℕ) (k v i : ℕ) → k < length xs → get_or (set xs k v) i 0 ≡ cond (eqb i k) v (get_or xs i 0)
set_is xs k v i h = let s = get_or-set_same xs k v 0 h in let q = cases_eq i k in grind (arith, places, nat_tests)

pub blank : (n i : ℕ) → ◌≡◌ {A = ℕ} (get_or (replicate n 0) i 0) 0
blank n i = let q = cases_lt i n in grind (arith, get_or-replicate, get_or_past, length-replicate)

-- ---- one test or another

pub either : (a b : Bool) (v g : ℕ) → cond b v (cond a v g) ≡ cond (a || b) v g
either true true v g = refl
either true false v g = refl
either false true v g = refl
either false false v g = refl

-- ---- the ground

pub ground_open : (i j : ℕ) → true ≡ in_run (record { from = 40; to = 80 }) j → cond {A = ℕ} (eqb i 80) 1 (cond (eqb i 79) 1 0) ≡ cond (on_line i j) 1 0
unfolding in_run on_line
ground_open i j h = grind (arith, nat_tests)

pub ground_beside : (i j : ℕ) → false ≡ in_run (record { from = 40; to = 80 }) j → cond {A = ℕ} (eqb i 159) 1 (cond (eqb i 0) 1 (cond (eqb i 80) 1 (cond (eqb i 79) 1 0))) ≡ cond (on_line i j) 1 0
unfolding in_run on_line
ground_beside i j h = grind (arith, nat_tests)

-- what a row without score, ball and paddles needs
pub ruleset grounds = (set_is, blank, ground_open, ground_beside)

-- ---- digits

three_by : (bits left i g k : ℕ) → i - left ≡ k → cond (eqb i (left + 2) && eqb (bits / 1 % 2) 1) 4 (cond (eqb i (left + 1) && eqb (bits / 2 % 2) 1) 4 (cond (eqb i left && eqb (bits / 4 % 2) 1) 4 g)) ≡ cond (in_bits bits left i) 4 g
unfolding in_bits
three_by bits left i g zero e = simp e (grind (arith, nat_tests))
three_by bits left i g (suc zero) e = simp e (grind (arith, nat_tests))
three_by bits left i g (suc (suc zero)) e = simp e (grind (arith, nat_tests))
three_by bits left i g (suc (suc (suc k))) e = simp e (grind (arith, nat_tests))

pub three_marks : (bits left i g : ℕ) → cond (eqb i (left + 2) && not (eqb (bit_and bits 1) 0)) 4 (cond (eqb i (left + 1) && not (eqb (bit_and bits 2) 0)) 4 (cond (eqb i left && not (eqb (bit_and bits 4) 0)) 4 g)) ≡ cond (in_bits bits left i) 4 g
three_marks bits left i g = simp (mask_bit bits 0, mask_bit bits 1, mask_bit bits 2) (three_by bits left i g (i - left) refl)

pub digit_in : (n digit left i j : ℕ) → n ≡ digit → true ≡ in_run (record { from = 4; to = 9 }) j → in_bits (get_or (get_or glyphs n []) (j - 4) 0) left i ≡ in_digit digit left i j
unfolding in_run in_digit
digit_in n digit left i j e h =
    ap (λ d. in_bits (get_or (get_or glyphs d []) (j - 4) 0) left i) e ∙ ap (λ b. b && in_bits (get_or (get_or glyphs digit []) (j - 4) 0) left i) h

pub digit_out : (digit left i j : ℕ) → false ≡ in_run (record { from = 4; to = 9 }) j → in_digit digit left i j ≡ false
unfolding in_run in_digit
digit_out digit left i j h = ap (λ b. b && in_bits (get_or (get_or glyphs digit []) (j - 4) 0) left i) (sym h)

-- ---- a dot

pub dot_is : (s : State) (a : Areas) (i j : ℕ) → Covered s a → cond (in_run a.right.columns i && in_run a.right.rows j) 3 (cond (in_run a.left.columns i && in_run a.left.rows j) 3 (cond (in_run a.ball.columns i && in_run a.ball.rows j) 2 (cond (in_score s i j) 4 (cond (on_line i j) 1 0)))) ≡ dot s i j
unfolding dot
dot_is s a i j h =
    either (in_run a.left.columns i && in_run a.left.rows j) (in_run a.right.columns i && in_run a.right.rows j) 3 _
    ∙ simp (h.ball_x.same, h.ball_y.same, h.left_x.same, h.left_y.same, h.right_x.same, h.right_y.same)
