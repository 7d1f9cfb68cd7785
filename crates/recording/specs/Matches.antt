-- What a recording holds, and its bytes. Assumes nothing: these are definitions.
use Rattle.std.specs.Prelude.{ℕ, zero, suc, ◌+◌, ◌*◌, ◌/◌, ◌%◌, List, [], ◌∷◌, ◌++◌, map, length, take}
use Rattle.byte_numbers.specs.Little.{little}
use Rattle.court.specs.declared.state.State.{State}
use Rattle.court.specs.Frame.{start}
use Rattle.court_game.specs.Games.{court_game}
use Rattle.court_game.specs.Snapshots.{state_bytes}
use Rattle.court_game.specs.Sounding.{SoundingCourt, sounding_game, sounding_start}
use Rattle.game.specs.Plain.{plays, seat_0, seat_1}
use Rattle.game.specs.declared.seat.Seat.{Seat}
use Rattle.game.specs.Seats.{in_order}
use Rattle.peer.specs.Peers.{Log}

-- ---- a match

-- the window, and a byte for each frame: seat 0's input and 16 times seat 1's
pub record Match : Type 0 where
  pub window : ℕ
  pub frames : List ℕ

-- a frame's byte; of an input only four bits count
abbrev pub frame_byte : ℕ → ℕ → ℕ
frame_byte a b = a % 16 + 16 * (b % 16)

-- the bytes of the frames of which both seats have inputs
unfoldable pub frame_bytes : List ℕ → List ℕ → List ℕ
frame_bytes [] bs = []
frame_bytes (a ∷ xs) [] = []
frame_bytes (a ∷ xs) (b ∷ bs) = frame_byte a b ∷ frame_bytes xs bs

-- what a peer is sure of: the frames of which it has both inputs
abbrev pub match_of : Seat → ℕ → Log → Match
match_of seat window log =
    let inputs = in_order seat log.own log.other in record { window = window; frames = frame_bytes inputs.0 inputs.1 }

-- the state after frames: the plain game
abbrev pub after_frames : List ℕ → State
after_frames fs = plays court_game start (map seat_0 fs) (map seat_1 fs)

-- the same with the tone
abbrev pub sounding_after : List ℕ → SoundingCourt
sounding_after fs = plays sounding_game sounding_start (map seat_0 fs) (map seat_1 fs)

-- ---- its bytes

-- the states after frames 600, 1,200 and so on, with their tones, m of them
unfoldable pub marks : List ℕ → ℕ → List ℕ
marks fs zero = []
marks fs (suc m) = marks fs m ++ state_bytes (sounding_after (take (600 * suc m) fs))

-- "REC"; the window; how many frames; the frames; the state after every 600th
abbrev pub match_bytes : Match → List ℕ
match_bytes m =
    82 ∷ (69 ∷ (67 ∷ (m.window ∷ (little 4 (length m.frames) ++ (m.frames ++ marks m.frames (length m.frames / 600))))))

-- how long they are, by the number of frames
abbrev pub match_length : ℕ → ℕ
match_length n = 8 + n + 64 * (n / 600)
