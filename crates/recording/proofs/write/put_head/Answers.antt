use Rattle.std.proofs.Common.{◌≡◌, List, ℕ, ◌∷◌, ◌∙◌, rules, arith}
use Rattle.byte_numbers.specs.Little.{little, overwritten}
use Rattle.byte_numbers.proofs.Places.{put_all}
use Rattle.recording.proofs.write.put_head.Goals as goal

pub returns : goal.returns
returns c =
    let out = c.args.out.now in
    let head : List ℕ = 82 ∷ (69 ∷ (67 ∷ (c.args.window ∷ little 4 c.args.count))) in
    let over : c.put.new.bytes ≡ overwritten out 0 head = search rules in
    over ∙ put_all out head (omega arith)
