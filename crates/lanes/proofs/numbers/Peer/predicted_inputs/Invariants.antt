use Rattle.std.proofs.Common.{◌≡◌, ℕ, ◌<◌, length, get_or}
use Rattle.seats.specs.Peers.{predicted_input}
use Rattle.lanes.specs.Lanes.{row_in}
use Rattle.lanes.specs.Lent.{lane_counts}
use Rattle.lanes.proofs.numbers.Peer.predicted_inputs.Given as goal

abbrev pub invariant-loop-seat : goal.invariant-loop-seat
invariant-loop-seat g l = record { long : length l.row ≡ g.row.SEATS; so_far : (k : ℕ) → k < l.seat → get_or l.row k 0 ≡ predicted_input (row_in l.self.seat (lane_counts l.self) l.inputs k) l.frame }
