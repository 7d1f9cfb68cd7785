-- Where a peer of the court's game stands. Assumes nothing: these are definitions.
use Rattle.std.specs.Prelude.{ℕ, List, ◌++◌, codes, length}
use Rattle.std.specs.Fmt.{decimal}
use Rattle.court_game.specs.Games.{court_game}
use Rattle.game.specs.declared.seat.Seat.{Seat}
use Rattle.peer.specs.Peers.{Log, confirmed, shows}
use Rattle.session.specs.declared.status.Status.{Status}

-- its frames, those that are confirmed, and the score that it shows
abbrev pub status_of : Seat → Log → Status
status_of seat log = record { frames = length log.own; confirmed = confirmed log; score = (shows court_game seat log).score }

-- as people are told: "beat 3 sure 0 points 0 0"
abbrev pub status_text : Status → List ℕ
status_text s =
    codes "beat " ++ decimal s.frames ++ codes " sure " ++ decimal s.confirmed ++
    codes " points " ++ decimal s.score.left ++ codes " " ++ decimal s.score.right
