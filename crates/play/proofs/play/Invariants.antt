use Rattle.std.proofs.Common.{◌≡◌, ℕ, true, List, ◌++◌}
use Rattle.game.specs.declared.seat.Seat.{Seat}
use Rattle.peer.specs.Peers.{Event}
use Rattle.session.specs.Rows.{After, log_after, memory, packets_sent, sounds_handed}
use Rattle.session.proofs.Filed.{Given}
use Rattle.play.proofs.play.Given as goal

abbrev pub invariant-loop-event : goal.invariant-loop-event
invariant-loop-event l =
    record {
      can_next : (goal.iterator-loop-event).can_next l.event-iterator;
      is_finite : (goal.iterator-loop-event).is_finite l.event-iterator;
      read : (es : List Event) × Given l.row.file.now es l.event-iterator
          × ((seat : Seat) (window : ℕ) (before : List Event) → After seat window before (memory l.initial.p l.initial.memory.inputs.items l.initial.memory.states.items) → After seat window (before ++ es) (memory l.p l.memory.inputs.items l.memory.states.items)
          × (l.kept.letters.items ≡ packets_sent window (log_after window before) es)
          × (l.heard ≡ true → l.kept.sounds.items ≡ sounds_handed seat window (log_after window before) es));
    }
