use Rattle.std.proofs.Common.{[], ◌∷◌, ◌++◌, arith}
use Rattle.std.proofs.lemmas.List.{length_push}
use Rattle.session.specs.Events.{event_of}
use Rattle.session.proofs.Filed.{given_more}
use Rattle.session.proofs.file.check_events.Goals as goal

pub loop-event-preserved : goal.loop-event-preserved
loop-event-preserved c =
    let (es, given, count) = c.loop-event.invariant.read in
    let e = event_of c.in_ok-event.field-0 in
    record {
      can_next = tt;
      is_finite = tt;
      read = (es ++ e ∷ [], given_more _ es _ _ _ (rw c.in_ok-event.was at c.in-Some.ensures.steps) given, omega (arith, length_push es e));
    }
