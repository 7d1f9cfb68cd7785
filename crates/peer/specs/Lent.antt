-- Peers in lent memory. Assumes nothing: these are definitions.
use Rattle.std.specs.Prelude.{◌≡◌, ℕ, zero, suc, ◌+◌, ◌-◌, ◌*◌, ◌<◌, ◌≤◌, cond, List, [], ◌∷◌, ◌++◌, length, take, drop, nat_lt, slice_index}
use Rattle.game.specs.Plain.{Game}
use Rattle.game.specs.declared.seat.Seat.{Seat}
use Rattle.game.specs.declared.seat.Seat.TheVariants.{Left, Right}
use Rattle.peer.specs.declared.numbers.Peer.{Peer}
use Rattle.peer.specs.Peers.{Log}

-- the log that a peer's numbers and lent memory stand for: own inputs, and from 1,000,000 on the other's
unfoldable pub log_of : Peer → List ℕ → Log
log_of p inputs = record { own = take p.own inputs; other = take p.other (drop 1000000 inputs); acked = p.acked }

-- a log with one own input more
abbrev pub with_own : Log → ℕ → Log
with_own log a = record { own = log.own ++ a ∷ []; other = log.other; acked = log.acked }

-- the memory for the inputs is long enough
abbrev pub Long : List ℕ → Type 0
Long inputs = 2000000 ≤ length inputs

-- and that for the states: one more than the window, 64 bytes each
abbrev pub LongStates : ℕ → List ℕ → Type 0
LongStates window states = (window + 1) * 64 ≤ length states

-- no byte of the memory changes but those of inputs that are new
abbrev pub Untouched : Peer → List ℕ → Peer → List ℕ → Type 0
Untouched p inputs q inputs' =
    (i : ℕ) → ((p.own ≤ i) × (i < q.own) → ⊥) → ((1000000 + p.other ≤ i) × (i < 1000000 + q.other) → ⊥) →
    slice_index inputs' i ≡ slice_index inputs i

-- ---- the game by inputs as functions of the frame

-- a game as one seat has it: the own input first
abbrev pub seated : {S : Type 0} → Seat → Game S → Game S
seated Left g = g
seated Right g = record { start = g.start; frame = λ s own other. g.frame s other own }

unfoldable pub state_at : {S : Type 0} → Game S → (ℕ → ℕ) → (ℕ → ℕ) → ℕ → S
state_at g f h zero = g.start
state_at g f h (suc k) = g.frame (state_at g f h k) (f k) (h k)

unfoldable pub own_at : List ℕ → ℕ → ℕ
own_at inputs i = slice_index inputs i

-- the other's input at frame i, of which b came: what came, else the last that came, or 0
unfoldable pub other_at : ℕ → List ℕ → ℕ → ℕ
other_at b inputs i = cond (nat_lt i b) (slice_index inputs (1000000 + i)) (cond (nat_lt 0 b) (slice_index inputs (1000000 + (b - 1))) 0)

-- the state after k frames by the inputs in lent memory, from a seat
abbrev pub after : {S : Type 0} → Game S → List ℕ → ℕ → ℕ → S
after g inputs b k = state_at g (own_at inputs) (other_at b inputs) k
