use Rattle.std.proofs.Common.{◌≡◌, ℕ, ◌+◌, List, ◌++◌}
use Rattle.game.specs.declared.seat.Seat.{Seat}
use Rattle.peer.specs.Peers.{Event}
use Rattle.rollback.specs.Saved.{Behind}
use Rattle.session.specs.Rows.{After, memory}
use Rattle.session.proofs.Filed.{Given}
use Rattle.session.proofs.whole.happen_all.Given as goal

abbrev pub invariant-loop-event : goal.invariant-loop-event
invariant-loop-event l =
    record {
      can_next : (goal.iterator-loop-event).can_next l.event-iterator;
      is_finite : (goal.iterator-loop-event).is_finite l.event-iterator;
      window : l.p.window ≡ l.initial.p.window;
      behind : Behind (l.initial.p.window + 1) l.initial.states l.states;
      read : (es : List Event) × Given l.row.file.now es l.event-iterator
          × ((seat : Seat) (window : ℕ) (before : List Event) → After seat window before (memory l.initial.p l.initial.inputs l.initial.states) → After seat window (before ++ es) (memory l.p l.inputs l.states));
    }
