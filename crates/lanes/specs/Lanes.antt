-- Lanes of inputs in lent memory, at any number of seats. Assumes nothing: these are definitions.
use Rattle.std.specs.Prelude.{ℕ, ◌+◌, ◌*◌, ◌≤◌, if◌then◌else◌, List, map, length, take, drop, ◌==◌, nat_lt, slice_index}
use Rattle.std.specs.List.{range_with_len}
use Rattle.seats.specs.Peers.{Log}
use Rattle.seats.specs.Plain.{most_frames}

-- as many seats as a game has at most: a packet has its sender's in one byte
abbrev pub most_seats : ℕ
most_seats = 256

-- where a seat's lane stands, seen from a seat: its own first, then the others in their order
unfoldable pub place : ℕ → ℕ → ℕ
place seat j = if j == seat then 0 else (if nat_lt j seat then j + 1 else j)

-- and where it begins
abbrev pub lane_start : ℕ → ℕ → ℕ
lane_start seat j = most_frames * place seat j

-- a seat's row of inputs, as many as are known
abbrev pub row_in : ℕ → List ℕ → List ℕ → ℕ → List ℕ
row_in seat counts inputs j =
    take (slice_index counts j) (drop (lane_start seat j) inputs)

-- the log that a seat, what is known and acknowledged, and lent memory stand for
unfoldable pub log_in : ℕ → List ℕ → List ℕ → List ℕ → Log
log_in seat counts acked inputs =
    record {
      seat = seat;
      rows = map (row_in seat counts inputs) (range_with_len 0 (length counts));
      acked = acked;
    }

-- the memory for the inputs has a whole lane for each seat
abbrev pub HasInputRoom : ℕ → List ℕ → Type 0
HasInputRoom seats inputs = seats * most_frames ≤ length inputs
