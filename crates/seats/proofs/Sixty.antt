-- A row of turns of two, computed, at which a window of 61 is too much. Assumes nothing.
use native.Mathlib.Bridge.{le_prop}
use Rattle.std.proofs.Common.{◌≡◌, ℕ, zero, suc, ◌<◌, ◌≤◌, Bool, leb, List, [], ◌∷◌, ◌++◌, replicate, refl, subst, arith}
use Rattle.std.specs.Prelude.{◌≢◌}
use Rattle.std.proofs.lemmas.Bool.{leb-true}
use Rattle.packet.specs.Wire.{start_checked, rest_checked, reading}
use Rattle.peer.specs.Peers.{joined}
use Rattle.seats.specs.Network.{Seat, Turn, tick, send, deliver, packet_from, with_delivery, with_turn, with_turns, network}
use Rattle.seats.specs.Packets.{packet_bytes, packet_in}
use Rattle.seats.specs.Peers.{least, with_packet, with_event, confirmed}
use Rattle.seats.specs.Promise.{Came, SixtyIsMost}

fits : ℕ → Bool
fits a = leb a 15

left : Seat 2
left = (0, omega arith)

right : Seat 2
right = (1, omega arith)

played : List (Turn 2)
played = replicate 61 (tick left 0) ++ replicate 61 (tick right 0)

-- 61 frames each, and a packet each that acknowledges none; then 61 frames more: 122 are played, and no input is acknowledged
ahead : List (Turn 2)
ahead = played ++ (send left 0 120 ∷ send right 0 120 ∷ deliver right 0 ∷ deliver left 1 ∷ played)

-- a packet each with 120 inputs
row : List (Turn 2)
row = ahead ++ (send left 0 120 ∷ send right 0 120 ∷ deliver right 2 ∷ deliver left 3 ∷ [])

to_right : Came fits 61 2 122 row left right
unfolding fits left right played ahead row with_turn with_turns with_event with_packet joined packet_from with_delivery packet_bytes packet_in reading start_checked rest_checked least
to_right = record { before = ahead; between = send right 0 120 ∷ []; after = deliver left 3 ∷ []; made = omega arith; so = refl }

to_left : Came fits 61 2 122 row right left
unfolding fits left right played ahead row with_turn with_turns with_event with_packet joined packet_from with_delivery packet_bytes packet_in reading start_checked rest_checked least
to_left = record { before = ahead ++ send left 0 120 ∷ []; between = deliver right 2 ∷ []; after = []; made = omega arith; so = refl }

both : (i j : Seat 2) → i.0 ≢ j.0 → Came fits 61 2 122 row i j
unfolding left right
both (zero, p) (zero, q) apart = absurd (apart refl)
both (zero, p) (suc zero, q) apart =
    subst (λ (h : 0 < 2). Came fits 61 2 122 row (0, h) (1, q)) (le_prop left.1 p) (subst (λ (h : 1 < 2). Came fits 61 2 122 row left (1, h)) (le_prop right.1 q) to_right)
both (suc zero, p) (zero, q) apart =
    subst (λ (h : 1 < 2). Came fits 61 2 122 row (1, h) (0, q)) (le_prop right.1 p) (subst (λ (h : 0 < 2). Came fits 61 2 122 row right (0, h)) (le_prop left.1 q) to_left)
both (suc zero, p) (suc zero, q) apart = absurd (apart refl)
both (suc (suc i), p) j apart = let no : ⊥ = omega arith in absurd no
both i (suc (suc j), q) apart = let no : ⊥ = omega arith in absurd no

-- two of the 122 frames are open
short : confirmed ((network fits 61 row).peers 0) ≡ 120
unfolding fits left right played ahead row with_turn with_turns with_event with_packet joined packet_from with_delivery packet_bytes packet_in reading start_checked rest_checked least
short = refl

pub sixty_is_most : SixtyIsMost
unfolding fits left
sixty_is_most sure = let most : 122 ≤ confirmed ((network fits 61 row).peers 0) = sure fits 2 122 row (λ a e. leb-true a 15 e) (omega arith) both left in omega (arith, short)
