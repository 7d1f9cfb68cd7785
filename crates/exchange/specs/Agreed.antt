-- What holds of two machines, whatever the radio did. Assumes nothing: these are definitions.
use Rattle.std.specs.Prelude.{◌≡◌, ℕ, ◌+◌, ◌≤◌, length, take}
use Rattle.court_game.specs.Games.{court_game}
use Rattle.game.specs.declared.seat.Seat.TheVariants.{Left, Right}
use Rattle.network.specs.Promise.{Begins}
use Rattle.peer.specs.Peers.{Log, confirmed, confirmed_at}
use Rattle.recording.specs.Matches.{match_of, match_bytes}

-- what each has of the other's inputs is the beginning of those that the other made; of the frames that are confirmed at both, both
-- have the same inputs, come to the same states and record the same bytes; where both have confirmed equally many, the recordings are
-- the same; and none is further ahead of the other's inputs that it has than the window
pub record Agree (window : ℕ) (left right : Log) : Type 0 where
  pub left_begins : Begins left.other right.own
  pub right_begins : Begins right.other left.own
  pub left_same : (k : ℕ) → k ≤ confirmed left → k ≤ confirmed right → take k left.own ≡ take k right.other
  pub right_same : (k : ℕ) → k ≤ confirmed left → k ≤ confirmed right → take k left.other ≡ take k right.own
  pub one_game : (k : ℕ) → k ≤ confirmed left → k ≤ confirmed right → confirmed_at court_game Left left k ≡ confirmed_at court_game Right right k
  pub same_frames : (k : ℕ) → k ≤ confirmed left → k ≤ confirmed right → take k (match_of Left window left).frames ≡ take k (match_of Right window right).frames
  pub same_recording : confirmed left ≡ confirmed right → match_bytes (match_of Left window left) ≡ match_bytes (match_of Right window right)
  pub left_near : length left.own ≤ length left.other + window
  pub right_near : length right.own ≤ length right.other + window
