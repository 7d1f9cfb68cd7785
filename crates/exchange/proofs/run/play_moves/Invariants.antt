use Rattle.std.proofs.Common.{◌≡◌, take, vec_items}
use Rattle.game.specs.declared.seat.Seat.TheVariants.{Left, Right}
use Rattle.exchange.specs.Moves.{after_moves, memory_of, SameLent}
use Rattle.exchange.specs.Tallies.{tally_after}
use Rattle.exchange.proofs.Held.{Holds}
use Rattle.exchange.proofs.run.play_moves.Given as goal

abbrev pub invariant-loop-step : goal.invariant-loop-step
invariant-loop-step l =
    Holds l.window (after_moves l.window (take l.step-index l.row)) Left (memory_of l.left) (memory_of l.right) (vec_items l.to_left) (vec_items l.to_right)
    × (SameLent l.initial.left l.left × SameLent l.initial.right l.right)
    × ((l.left.tally ≡ tally_after l.window Left (take l.step-index l.row)) × (l.right.tally ≡ tally_after l.window Right (take l.step-index l.row)))
