-- Numbers as bytes, low byte first, and bytes at a place of a list. Assumes nothing: these are definitions.
use Rattle.std.specs.Prelude.{ℕ, zero, suc, ◌+◌, ◌-◌, ◌*◌, ◌/◌, ◌%◌, ◌^◌, cond, List, [], ◌∷◌, ◌++◌, length, take, drop, ℤ, pos, negsuc, neg_ℤ, nat_lt}

-- a number in n bytes
abbrev pub little : ℕ → ℕ → List ℕ
little zero v = []
little (suc n) v = v % 256 ∷ little n (v / 256)

-- the number that bytes say
abbrev pub number_of : List ℕ → ℕ
number_of [] = 0
number_of (b ∷ bs) = b + 256 * number_of bs

-- a whole number in two's complement of 32 bits: a negative one is taken 2 ^ 32 higher; `negsuc n` is n + 1 below 0
abbrev pub complement : ℤ → ℕ
complement (pos n) = n
complement (negsuc n) = 2 ^ 32 - (n + 1)

-- and back
abbrev pub signed_of : ℕ → ℤ
signed_of v = cond (nat_lt v (2 ^ 31)) (pos v) (neg_ℤ (pos (2 ^ 32 - v)))

-- n bytes at a place
abbrev pub part : List ℕ → ℕ → ℕ → List ℕ
part xs at n = take n (drop at xs)

-- a list with other bytes at a place
abbrev pub overwritten : List ℕ → ℕ → List ℕ → List ℕ
overwritten xs at bs = take at xs ++ (bs ++ drop (at + length bs) xs)
