-- What the recording of a peer holds. Assumes nothing: these are definitions.
use Rattle.std.specs.Prelude.{◌≡◌, ℕ, List, length, take, Ok}
use Rattle.court_game.specs.Games.{court_game, is_input}
use Rattle.game.specs.declared.seat.Seat.{Seat}
use Rattle.peer.specs.Peers.{Log, Event, new_log, run, confirmed, confirmed_at}
use Rattle.recording.specs.Matches.{match_of, after_frames}
use Rattle.recording.specs.Reading.{reading}

-- bytes that hold the game that a peer is sure of: they are read as its match, with as many frames as are confirmed; and after any
-- row of events, right and wrong, the game that the first k frames give is the one with the first k inputs of both
pub record HoldsGame (seat : Seat) (window : ℕ) (log : Log) (bytes : List ℕ) : Type 0 where
  pub read : reading bytes ≡ Ok (match_of seat window log)
  pub many : length (match_of seat window log).frames ≡ confirmed log
  pub game :
      (es : List Event) → log ≡ run is_input window new_log es →
      (k : ℕ) → after_frames (take k (match_of seat window log).frames) ≡ confirmed_at court_game seat log k
