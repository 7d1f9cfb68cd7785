-- Rows of events at a peer in lent memory. Assumes nothing: these are definitions, and statements that are proved in proofs/.
use Rattle.std.specs.Prelude.{◌≡◌, ℕ, ◌+◌, ◌%◌, ◌≤◌, List, [], ◌∷◌, length, drop}
use Rattle.game.specs.Plain.{plays}
use Rattle.game.specs.Saved.{SavedRules}
use Rattle.game.specs.declared.seat.Seat.{Seat}
use Rattle.peer.specs.declared.numbers.Peer.{Peer}
use Rattle.peer.specs.Lent.{log_of, seated}
use Rattle.peer.specs.Peers.{Log, Event, run, new_log, predicted, confirmed, shows}
use Rattle.rollback.specs.Saved.{Roomy, Kept, Begun, Happened, Shown, slot}

-- a peer's numbers and its lent memory, at one moment
pub record Memory : Type 0 where
  pub peer : Peer
  pub inputs : List ℕ
  pub states : List ℕ

-- one event after the other takes one memory to another, each as the contracts of the calls say
unfoldable pub Goes : {S : Type 0} → SavedRules S → Memory → List Event → Memory → Type 0
Goes r m [] n = m ≡ n
Goes r m (e ∷ es) n =
    (k : Memory) × Happened r m.peer m.inputs m.states e k.peer k.inputs k.states × Goes r k es n

-- memory that stands for a log: the log is in it, and the states are saved that the log asks for
pub record StandsFor {S : Type 0} (r : SavedRules S) (seat : Seat) (window : ℕ) (log : Log) (m : Memory) : Type 0 where
  pub seat_is : m.peer.seat ≡ seat
  pub window_is : m.peer.window ≡ window
  pub roomy : Roomy window m.inputs m.states
  pub log_is : log_of m.peer m.inputs ≡ log
  pub kept : Kept r m.peer m.inputs m.states

-- ---- what is promised

-- whatever memory it was begun in, and whatever events came, right and wrong: the memory stands for the log that the definitions give
abbrev pub KeepsLog : {S : Type 0} → SavedRules S → Type 0
KeepsLog r =
    (seat : Seat) (window : ℕ) (m n : Memory) (es : List Event) →
    Begun r seat window m.peer m.inputs m.states → Goes r m es n → StandsFor r seat window (run r.fits window new_log es) n

-- so what is shown is the plain game with what that log has and predicts
abbrev pub SameShown : {S : Type 0} → SavedRules S → Type 0
SameShown {S = S} r =
    (seat : Seat) (window : ℕ) (m n : Memory) (es : List Event) (s : S) →
    Begun r seat window m.peer m.inputs m.states → Goes r m es n → Shown r n.peer n.states s →
    s ≡ shows r.game seat (run r.fits window new_log es)

-- and each saved state, from the confirmed frames to the last, is one of the game from which the inputs behind it lead to what is shown
abbrev pub PlaysOn : {S : Type 0} → SavedRules S → Type 0
PlaysOn {S = S} r =
    (seat : Seat) (window : ℕ) (log : Log) (m : Memory) → StandsFor r seat window log m →
    (k : ℕ) → confirmed log ≤ k → k ≤ length log.own →
    (s : S) × r.ok s × (slot m.states (k % (window + 1)) ≡ r.coded s)
    × (plays (seated seat r.game) s (drop k log.own) (drop k (predicted log)) ≡ shows r.game seat log)
