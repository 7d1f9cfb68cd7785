use Rattle.std.proofs.Common.{rules}
use Rattle.session.specs.Files.{FileOf}
use Rattle.session.proofs.Filed.{one_row}
use Rattle.session.proofs.row.Row.of.Goals as goal

pub invariant_of-result : goal.invariant_of-result
invariant_of-result c =
    let row = c.in_ok-check_events.ensures in
    let events : FileOf row.0 c.args.file.now = search rules in
    record { whole = (one_row _ row.0 events).1 }
