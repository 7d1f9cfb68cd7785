-- The steps of a frame are short and few. Assumes nothing.
use Rattle.std.proofs.Common.{◌≡◌, ℕ, ◌*◌, ◌/◌, ◌%◌, ◌<◌, ◌≤◌, Bool, true, false, ℤ, pos, neg_ℤ, refl, ◌∙◌, arith}
use Rattle.std.specs.Prelude.{unsigned_abs, nat_lt, if◌then◌else◌}
use lib.Signed.{lt_z}
use Rattle.std.proofs.lemmas.Int.{ints}
use Rattle.std.proofs.Math.Nat.{div-one, div-le_of_le-mul, lt_of_mul-lt-mul_left}
use borrow.Author.Tests.{ltb-true}
use Rattle.court.specs.declared.state.Ball.{Ball}
use Rattle.court.specs.declared.state.Paddle.{Paddle}
use Rattle.court.specs.Frame.{step_count, step_length, along, ball_moved, both_at_once, after_steps}
use Rattle.court.specs.Bounds.{Within}

-- n steps that together are d long are no longer than m each, where m times n is enough
length_by : (d n i m : ℕ) (t : Bool) → nat_lt i (d % n) ≡ t → 0 < n → d ≤ m * n → step_length d n i ≤ m
unfolding step_length
length_by d n i m true e p h =
    let more : i < d % n = ltb-true i (d % n) e in
    let less : n * (d / n) < n * m = omega arith in
    let below : d / n < m = lt_of_mul-lt-mul_left n less in
    simp e (omega arith)
length_by d n i m false e p h =
    let most : d ≤ n * m = omega arith in
    let below : d / n ≤ m = div-le_of_le-mul n most in
    simp e (omega arith)

pub step_length_most : (d n i m : ℕ) → 0 < n → d ≤ m * n → step_length d n i ≤ m
step_length_most d n i m p h = length_by d n i m (nat_lt i (d % n)) refl p h

-- the steps are at least one, and enough
pub steps_some : (b : Ball) → 0 < step_count b
unfolding step_count
steps_some b = omega arith

pub steps_enough : (b : Ball) → (unsigned_abs b.dx ≤ 768 * step_count b) × (unsigned_abs b.dy ≤ 768 * step_count b)
unfolding step_count
steps_enough b = (omega arith, omega arith)

pub steps_few : (b : Ball) → unsigned_abs b.dx ≤ 6144 → unsigned_abs b.dy ≤ 6144 → step_count b ≤ 8
unfolding step_count
steps_few b h k = omega arith

-- a slow ball has one step, and it is its velocity
pub steps_one : (b : Ball) → unsigned_abs b.dx ≤ 768 → unsigned_abs b.dy ≤ 768 → step_count b ≡ 1
unfolding step_count
steps_one b h k = omega arith

pub length_all : (d : ℕ) → step_length d 1 0 ≡ d
unfolding step_length
length_all d =
    let all : d / 1 ≡ d = div-one d in
    let none : d % 1 ≡ 0 = omega arith in
    simp (all, none) (omega arith)

along_by : (v : ℤ) (d : ℕ) (t u : Bool) → lt_z v (pos 0) ≡ t → lt_z (pos 0) v ≡ u → along v d ≡ (if t then neg_ℤ (pos d) else (if u then pos d else pos 0))
unfolding along
along_by v d true u e f = simp e refl
along_by v d false true e f = simp (e, f) refl
along_by v d false false e f = simp (e, f) refl

all_by : (v : ℤ) (t u : Bool) → lt_z v (pos 0) ≡ t → lt_z (pos 0) v ≡ u → along v (unsigned_abs v) ≡ v
all_by v true u e f = along_by v (unsigned_abs v) true u e f ∙ omega (arith, ints)
all_by v false true e f = along_by v (unsigned_abs v) false true e f ∙ omega (arith, ints)
all_by v false false e f = along_by v (unsigned_abs v) false false e f ∙ omega (arith, ints)

pub along_all : (v : ℤ) → along v (unsigned_abs v) ≡ v
along_all v = all_by v (lt_z v (pos 0)) (lt_z (pos 0) v) refl refl

in_by : (v : ℤ) (d m : ℕ) → d ≤ m → (t u : Bool) → lt_z v (pos 0) ≡ t → lt_z (pos 0) v ≡ u → Within (neg_ℤ (pos m)) (pos m) (along v d)
in_by v d m h true u e f = rw (along_by v d true u e f) (omega (arith, ints), omega (arith, ints))
in_by v d m h false true e f = rw (along_by v d false true e f) (omega (arith, ints), omega (arith, ints))
in_by v d m h false false e f = rw (along_by v d false false e f) (omega (arith, ints), omega (arith, ints))

pub along_in : (v : ℤ) (d m : ℕ) → d ≤ m → Within (neg_ℤ (pos m)) (pos m) (along v d)
along_in v d m h = in_by v d m h (lt_z v (pos 0)) (lt_z (pos 0) v) refl refl

-- what a ball flies in one step of its frame
pub step_short_x : (first : Ball) (i : ℕ) → step_length (unsigned_abs first.dx) (step_count first) i ≤ 768
step_short_x first i = step_length_most _ (step_count first) i 768 (steps_some first) (steps_enough first).0

pub step_short_y : (first : Ball) (i : ℕ) → step_length (unsigned_abs first.dy) (step_count first) i ≤ 768
step_short_y first i = step_length_most _ (step_count first) i 768 (steps_some first) (steps_enough first).1

-- a frame of one step
pub one_step : (l r : Paddle) (first : Ball) (n : ℕ) → step_count first ≡ n → n ≡ 1 → both_at_once l r first (ball_moved first.dx first.dy first) ≡ after_steps both_at_once l r first (step_count first)
unfolding after_steps
one_step l r first n e o =
    let one : step_count first ≡ 1 = e ∙ o in
    simp (one, length_all, along_all) refl
