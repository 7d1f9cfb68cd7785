-- A row of turns, computed, at which a window of 61 is too much. Assumes nothing.
use Rattle.std.proofs.Common.{◌≡◌, ℕ, ◌≤◌, Bool, leb, List, [], ◌∷◌, ◌++◌, replicate, refl, arith}
use Rattle.std.proofs.lemmas.Bool.{leb-true}
use Rattle.game.specs.declared.seat.Seat.{Seat}
use Rattle.game.specs.declared.seat.Seat.TheVariants.{Left, Right}
use Rattle.packet.specs.Wire.{start_checked, rest_checked, reading}
use Rattle.peer.specs.Peers.{joined, event, confirmed}
use Rattle.network.specs.Network.{Turn, tick, send, deliver, written, handed, turn, turns, network}
use Rattle.network.specs.Promise.{Came, SixtyIsMost}

fits : ℕ → Bool
fits a = leb a 15

frames : List Turn
frames = replicate 61 (tick Left 0) ++ replicate 61 (tick Right 0)

-- 61 frames each, and a packet each that acknowledges none; then 61 frames more: 122 are made, and none is acknowledged
ahead : List Turn
ahead = frames ++ (send Left 0 120 ∷ send Right 0 120 ∷ deliver Left 0 ∷ deliver Right 0 ∷ frames)

-- a packet each with 120 inputs
row : List Turn
row = ahead ++ (send Left 0 120 ∷ send Right 0 120 ∷ deliver Right 1 ∷ deliver Left 1 ∷ [])

both : (seat : Seat) → Came fits 61 122 row seat
unfolding fits frames ahead row turns turn event joined written handed reading start_checked rest_checked
both Left = record { before = ahead; between = send Right 0 120 ∷ []; after = deliver Left 1 ∷ []; made = omega arith; so = refl }
both Right = record { before = ahead ++ send Left 0 120 ∷ []; between = deliver Right 1 ∷ []; after = []; made = omega arith; so = refl }

-- two of the 122 frames are open
short : confirmed (network fits 61 row).left ≡ 120
unfolding fits frames ahead row turns turn event joined written handed reading start_checked rest_checked
short = refl

pub sixty_is_most : SixtyIsMost
unfolding fits
sixty_is_most h = let most : 122 ≤ confirmed (network fits 61 row).left = h fits 122 row (λ a e. leb-true a 15 e) both Left in omega (arith, short)
