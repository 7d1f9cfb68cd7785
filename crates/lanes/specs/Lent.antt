-- Peers in lent memory. Assumes nothing: these are definitions.
use Rattle.std.specs.Prelude.{◌≡◌, ℕ, ◌+◌, ◌<◌, ◌≤◌, List, map, slice_index}
use Rattle.lanes.specs.declared.lane.Lane.{Lane}
use Rattle.lanes.specs.declared.numbers.Peer.{Peer}
use Rattle.lanes.specs.Lanes.{lane_start, log_in}
use Rattle.seats.specs.Peers.{Log}

-- how many inputs are known of each seat
abbrev pub lane_counts : {SEATS : ℕ} → Peer SEATS → List ℕ
lane_counts p = map (λ (lane : Lane). lane.known) p.lanes

-- the log that a peer and lent memory stand for
abbrev pub log_of : {SEATS : ℕ} → Peer SEATS → List ℕ → Log
log_of p inputs = log_in p.seat (lane_counts p) p.acked inputs

-- no byte of the memory changes but those of inputs that are new
abbrev pub KeepsBytes : {SEATS : ℕ} → Peer SEATS → Peer SEATS → List ℕ → List ℕ → Type 0
KeepsBytes {SEATS} old new inputs inputs' =
    (i : ℕ) →
    ((j : ℕ) → j < SEATS → lane_start old.seat j + slice_index (lane_counts old) j ≤ i →
    i < lane_start old.seat j + slice_index (lane_counts new) j → ⊥) →
    slice_index inputs' i ≡ slice_index inputs i
