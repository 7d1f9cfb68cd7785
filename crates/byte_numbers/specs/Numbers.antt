-- Numbers as bytes and back: what the trait's laws say. Assumes nothing.
use Rattle.std.proofs.Common.{◌≡◌, ℕ, zero, suc, ◌*◌, ◌/◌, ◌^◌, ◌<◌, length, ℤ, pos, negsuc, neg_ℤ, ◌≤ℤ◌, ◌<ℤ◌, refl, ap, ◌∙◌, pow-suc, arith}
use Rattle.std.proofs.lemmas.Int.{ints}
use Rattle.std.proofs.lemmas.Bool.Decides.{nat_tests}
use Rattle.byte_numbers.specs.Little.{little, number_of, complement, signed_of}

pub length_little : (n v : ℕ) → length (little n v) ≡ n
length_little zero v = refl
length_little (suc n) v = ap suc (length_little n (v / 256))

-- what is written is read
pub number_little : (n v : ℕ) → v < 256 ^ n → number_of (little n v) ≡ v
number_little zero v h = omega arith
number_little (suc n) v h =
    let p : v < 256 ^ n * 256 = rw pow-suc at h in
    let e : number_of (little n (v / 256)) ≡ v / 256 = number_little n (v / 256) (omega arith) in
    omega arith

-- a whole number of 32 bits in two's complement, and back
pub complement_small : (z : ℤ) → neg_ℤ (pos (2 ^ 31)) ≤ℤ z → z <ℤ pos (2 ^ 31) → complement z < 2 ^ 32
complement_small (pos n) l u = omega (arith, ints)
complement_small (negsuc n) l u = omega (arith, ints)

pub signed_complement : (z : ℤ) → neg_ℤ (pos (2 ^ 31)) ≤ℤ z → z <ℤ pos (2 ^ 31) → signed_of (complement z) ≡ z
signed_complement (pos n) l u = grind (arith, ints, nat_tests)
signed_complement (negsuc n) l u = grind (arith, ints, nat_tests)

pub signed_little : (z : ℤ) → neg_ℤ (pos (2 ^ 31)) ≤ℤ z → z <ℤ pos (2 ^ 31) → signed_of (number_of (little 4 (complement z))) ≡ z
signed_little z l u = ap signed_of (number_little 4 (complement z) (complement_small z l u)) ∙ signed_complement z l u
