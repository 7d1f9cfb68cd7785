-- A state of the court and its tone in 64 bytes. Assumes nothing: these are definitions.
use Rattle.std.specs.Prelude.{ℕ, ◌+◌, List, [], ◌∷◌, ◌++◌, replicate, ℤ, slice_index}
use Rattle.byte_numbers.specs.Little.{little, number_of, complement, signed_of, part}
use Rattle.court.specs.declared.state.Ball.{Ball}
use Rattle.court.specs.declared.state.Paddle.{Paddle}
use Rattle.court.specs.declared.state.State.{State}
use Rattle.sound.specs.Tones.{Sounding, tone_bytes, tone_said}
use Rattle.court_game.specs.Sounding.{SoundingCourt}

-- ---- a state's bytes

-- a position or a velocity: four bytes, low byte first, two's complement
abbrev pub whole_bytes : ℤ → List ℕ
whole_bytes z = little 4 (complement z)

-- x, y, and the velocity's
abbrev pub ball_bytes : Ball → List ℕ
ball_bytes b = whole_bytes b.x ++ (whole_bytes b.y ++ (whole_bytes b.dx ++ whole_bytes b.dy))

abbrev pub paddle_bytes : Paddle → List ℕ
paddle_bytes p = whole_bytes p.x ++ whole_bytes p.y

-- the scores of seat 0 and seat 1 and the wait, a byte each, and the tone's kind and age
abbrev pub small_bytes : SoundingCourt → List ℕ
small_bytes s = s.court.score.left ∷ (s.court.score.right ∷ (s.court.wait ∷ tone_bytes s.tone))

-- ball, left paddle, right paddle; what has a byte each; 27 zero bytes
abbrev pub state_bytes : SoundingCourt → List ℕ
state_bytes s =
    ball_bytes s.court.ball
    ++ (paddle_bytes s.court.left ++ (paddle_bytes s.court.right ++ (small_bytes s ++ replicate 27 0)))

-- ---- the state that bytes say

abbrev pub whole_in : List ℕ → ℕ → ℤ
whole_in xs at = signed_of (number_of (part xs at 4))

abbrev pub ball_in : List ℕ → Ball
ball_in xs = record { x = whole_in xs 0; y = whole_in xs 4; dx = whole_in xs 8; dy = whole_in xs 12 }

abbrev pub paddle_in : List ℕ → ℕ → Paddle
paddle_in xs at = record { x = whole_in xs at; y = whole_in xs (at + 4) }

abbrev pub state_in : List ℕ → State
state_in xs =
    record {
      ball = ball_in xs;
      left = paddle_in xs 16;
      right = paddle_in xs 24;
      score = record { left = slice_index xs 32; right = slice_index xs 33 };
      wait = slice_index xs 34;
    }

abbrev pub tone_in : List ℕ → Sounding
tone_in xs = tone_said (slice_index xs 35 ∷ (slice_index xs 36 ∷ []))
