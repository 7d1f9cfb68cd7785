use Rattle.std.proofs.Common.{◌≡◌, ℕ, ◌<◌, length, get_or}
use Rattle.lanes.specs.Lent.{lane_counts}
use Rattle.lanes.proofs.numbers.Peer.counts.Given as goal

abbrev pub invariant-loop-seat : goal.invariant-loop-seat
invariant-loop-seat g l = record { long : length l.counts ≡ g.row.SEATS; so_far : (k : ℕ) → k < l.seat → get_or l.counts k 0 ≡ get_or (lane_counts l.self) k 0 }
