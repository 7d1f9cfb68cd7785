use Rattle.std.proofs.Common.{◌≡◌, List, length}
use Rattle.peer.specs.Peers.{Event}
use Rattle.session.proofs.Filed.{Given}
use Rattle.session.proofs.file.check_events.Given as goal

abbrev pub invariant-loop-event : goal.invariant-loop-event
invariant-loop-event l =
    record {
      can_next : (goal.iterator-loop-event).can_next l.event-iterator;
      is_finite : (goal.iterator-loop-event).is_finite l.event-iterator;
      read : (es : List Event) × Given l.file es l.event-iterator × (l.count ≡ length es);
    }
