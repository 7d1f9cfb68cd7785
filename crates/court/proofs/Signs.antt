-- Signed numbers. Assumes nothing.
use Rattle.std.proofs.Common.{◌≡◌, ℤ, pos, ◌-ℤ◌, neg_ℤ, arith}
use Rattle.std.proofs.lemmas.Int.{ints}

pub sub_neg : (z : ℤ) → pos 0 -ℤ z ≡ neg_ℤ z
sub_neg z = omega (arith, ints)
