-- States and their bytes. Assumes nothing.
use Rattle.std.proofs.Common.{◌≡◌, ◌^◌, ℤ, pos, neg_ℤ, refl, arith}
use Rattle.std.proofs.lemmas.Int.{ints}
use Rattle.byte_numbers.specs.Little.{number_of, signed_of}
use Rattle.byte_numbers.specs.Numbers.{signed_little}
use Rattle.court.specs.Bounds.{Within, InCourt}
use Rattle.court.proofs.Ranges.{ball_from, paddle_from, state_from}
use Rattle.court_game.specs.Sounding.{SoundingCourt}
use Rattle.court_game.specs.Snapshots.{whole_bytes, state_bytes, state_in}

-- every number in the court is below 2 ^ 16, and four bytes hold it
whole_back : (z : ℤ) → Within (neg_ℤ (pos (2 ^ 16))) (pos (2 ^ 16)) z → signed_of (number_of (whole_bytes z)) ≡ z
whole_back z h = signed_little z (omega (arith, ints)) (omega (arith, ints))

-- a state of the court is read from its bytes
pub state_back : (s : SoundingCourt) → InCourt s.court → state_in (state_bytes s) ≡ s.court
state_back s h =
    let ball = s.court.ball in
    let left = s.court.left in
    let right = s.court.right in
    state_from _ _ _ _ _ _ _ _ _ _ _ _
    (ball_from _ _ _ _ _ _ _ _
    (whole_back ball.x (omega (arith, ints, h.ball_in.x), omega (arith, ints, h.ball_in.x)))
    (whole_back ball.y (omega (arith, ints, h.ball_in.y), omega (arith, ints, h.ball_in.y)))
    (whole_back ball.dx (omega (arith, ints, h.ball_in.dx), omega (arith, ints, h.ball_in.dx)))
    (whole_back ball.dy (omega (arith, ints, h.ball_in.dy), omega (arith, ints, h.ball_in.dy))))
    (paddle_from _ _ _ _
    (whole_back left.x (omega (arith, ints, h.left_in.x), omega (arith, ints, h.left_in.x)))
    (whole_back left.y (omega (arith, ints, h.left_in.y), omega (arith, ints, h.left_in.y))))
    (paddle_from _ _ _ _
    (whole_back right.x (omega (arith, ints, h.right_in.x), omega (arith, ints, h.right_in.x)))
    (whole_back right.y (omega (arith, ints, h.right_in.y), omega (arith, ints, h.right_in.y))))
    refl refl refl
