use Rattle.std.proofs.Common.{◌≡◌, ℕ, not, eqb}
use lib.Bits.{bit_and}
use Rattle.court.specs.declared.input.Key.{Key}
use Rattle.court.specs.declared.input.Key.TheVariants.{Left, Right, Up, Down}
use Rattle.court.specs.Frame.{bit}
use Rattle.court.specs.Keys.{mask_of}
use Rattle.court.proofs.Bits.{mask_bit}
use Rattle.court.proofs.input.Input.holds.Goals as goal

held : (key : Key) (n : ℕ) → not (eqb (bit_and n (mask_of key)) 0) ≡ bit (mask_of key) n
held Left n = mask_bit n 0
held Right n = mask_bit n 1
held Up n = mask_bit n 2
held Down n = mask_bit n 3

pub returns : goal.returns
returns c = simp c.mask.ensures (held c.args.key c.args.self.0)
