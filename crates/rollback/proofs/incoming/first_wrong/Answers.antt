use Rattle.std.proofs.Common.{arith, rules, tests}
use Rattle.std.proofs.lemmas.Iterator.{first_from_Range}
use Rattle.std.proofs.lemmas.List.{get_or_read}
use Rattle.rollback.specs.Saved.{AsTaken}
use Rattle.rollback.proofs.incoming.first_wrong.Goals as goal

pub returns : goal.returns
returns c =
    let taken = AsTaken c.args.came c.args.inputs.now in
    let found = first_from_Range _ _ _ _ (λ i. taken i → ⊥) taken c.find.ensures.ran
    (λ x q k. grind (arith, tests, get_or_read))
    (λ x q k. (search rules, grind (arith, tests, get_or_read))) in
    rw c.confirmed.ensures at found
