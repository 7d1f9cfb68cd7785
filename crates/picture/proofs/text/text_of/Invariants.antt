use Rattle.std.proofs.Common.{◌≡◌, ◌++◌, drop, string_bytes}
use Rattle.picture.specs.Text.{text_from}
use Rattle.picture.proofs.text.text_of.Given as goal

abbrev pub invariant-loop-k : goal.invariant-loop-k
invariant-loop-k l = string_bytes l.text ++ text_from l.k (drop l.k l.picture) ≡ text_from 0 l.picture
