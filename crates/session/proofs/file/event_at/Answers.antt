use Rattle.std.proofs.Common.{arith}
use Rattle.session.proofs.Filed.{arrival_here}
use Rattle.session.proofs.file.event_at.Goals as goal

pub returns-in_ok-bytes-in-Some-eq1 : goal.returns-in_ok-bytes-in-Some-eq1
returns-in_ok-bytes-in-Some-eq1 c =
    let front = c.in-Some-eq1.ensures.lookup.0 in
    let part = (rw c.in_ok-bytes-in-Some-eq1.ensures.ok_part at c.get-in-Some-eq1.ensures.lookup).0 in
    arrival_here c.args.file.now c.in-Some-eq1.field-0.now _ c.args.at c.from-length.result _ front.0 front.2 (omega arith) (omega arith) (omega arith) (omega arith) (λ i. (c.type_inv.file i).fits) part.1 part.2
