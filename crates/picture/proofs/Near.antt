-- The dots near a position are a run. Assumes nothing.
use Rattle.std.proofs.Common.{◌≡◌, ℕ, ◌/◌, ◌&&◌, ltb, leb, ℤ, pos, ◌+ℤ◌, ◌-ℤ◌, ◌≤ℤ◌, arith}
use Rattle.std.proofs.lemmas.Int.{ints}
use Rattle.std.proofs.lemmas.Bool.Decides.{nat_tests}
use Rattle.picture.specs.Areas.{in_run, Covers}
use Rattle.picture.specs.Picture.{near}

near_is : (p half : ℤ) (a b i : ℕ) → pos a ≡ (p -ℤ half) +ℤ pos 128 → pos b ≡ (p +ℤ half) +ℤ pos 127 → near p half i ≡ (leb (a / 256) i && ltb i (b / 256))
unfolding near
near_is p half a b i ea eb = grind (arith, ints, nat_tests)

pub covers : (p half side : ℤ) (a b : ℕ) → pos a ≡ (p -ℤ half) +ℤ pos 128 → pos b ≡ (p +ℤ half) +ℤ pos 127 → pos 128 ≤ℤ half → p ≤ℤ (side -ℤ half) → side ≤ℤ pos 40960 → Covers p half (record { from = a / 256; to = b / 256 })
unfolding in_run
covers p half side a b ea eb h k l = record { ordered = omega (arith, ints); within = omega (arith, ints); same = λ i. near_is p half a b i ea eb }
