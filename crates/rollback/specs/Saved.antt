-- A peer that saves states in lent memory. Assumes nothing: these are definitions.
use Rattle.std.specs.Prelude.{◌≡◌, ℕ, ◌+◌, ◌*◌, ◌%◌, ◌≤◌, min, List, ◌++◌, length, take, drop, slice_index}
use Rattle.game.specs.Saved.{SavedRules}
use Rattle.game.specs.declared.seat.Seat.{Seat}
use Rattle.peer.specs.declared.numbers.Peer.{Peer}
use Rattle.peer.specs.Lent.{Long, LongStates, Untouched, log_of, other_at, seated, after}
use Rattle.peer.specs.Peers.{Event, event, new_log, shows}

-- ---- slots

-- slot i of the lent states: 64 bytes
unfoldable pub slot : List ℕ → ℕ → List ℕ
slot states i = take 64 (drop (i * 64) states)

-- the lent states with other bytes in slot i, and all else as it was
unfoldable pub with_slot : List ℕ → ℕ → List ℕ → List ℕ
with_slot states i bs = take (i * 64) states ++ (bs ++ drop 64 (drop (i * 64) states))

-- the bytes behind so many slots stay
abbrev pub Behind : ℕ → List ℕ → List ℕ → Type 0
Behind slots states states' = (i : ℕ) → slots * 64 ≤ i → slice_index states' i ≡ slice_index states i

-- ---- what memory has to hold

-- it is long enough: inputs, and a slot more than the window
pub record Roomy (window : ℕ) (inputs states : List ℕ) : Type 0 where
  pub inputs_long : Long inputs
  pub states_long : LongStates window states

-- the state after k frames lies in slot k mod (window + 1), for each k from lo to hi; so many of the other's inputs came
unfoldable pub Saved : {S : Type 0} → SavedRules S → Seat → ℕ → List ℕ → ℕ → List ℕ → ℕ → ℕ → Type 0
Saved r seat window inputs came states lo hi =
    (k : ℕ) → lo ≤ k → k ≤ hi → slot states (k % (window + 1)) ≡ r.coded (after (seated seat r.game) inputs came k)

-- what a peer has saved: the states after its confirmed frames, after its last, and after each between
abbrev pub Kept : {S : Type 0} → SavedRules S → Peer → List ℕ → List ℕ → Type 0
Kept r p inputs states = Saved r p.seat p.window inputs p.other states (min p.own p.other) p.own

-- the other's input that came for a frame is what was taken for it where so many had come
abbrev pub AsTaken : ℕ → List ℕ → ℕ → Type 0
AsTaken came inputs i = slice_index inputs (1000000 + i) ≡ other_at came inputs i

-- ---- what calls do

-- a peer that has just begun
pub record Begun {S : Type 0} (r : SavedRules S) (seat : Seat) (window : ℕ) (p : Peer) (inputs states : List ℕ) : Type 0 where
  pub seat_is : p.seat ≡ seat
  pub window_is : p.window ≡ window
  pub roomy : Roomy window inputs states
  pub log_is : log_of p inputs ≡ new_log
  pub kept : Kept r p inputs states

-- what an event does to a peer's numbers and its lent memory
pub record Happened {S : Type 0} (r : SavedRules S) (p : Peer) (inputs states : List ℕ) (e : Event) (q : Peer) (inputs' states' : List ℕ) : Type 0 where
  pub window_same : q.window ≡ p.window
  pub seat_same : q.seat ≡ p.seat
  pub inputs_same : length inputs' ≡ length inputs
  pub states_same : length states' ≡ length states
  pub untouched : Untouched p inputs q inputs'
  pub behind : Behind (p.window + 1) states states'
  pub does : Roomy p.window inputs states → log_of q inputs' ≡ event r.fits p.window (log_of p inputs) e
  pub keeps : Roomy p.window inputs states → Kept r p inputs states → Kept r q inputs' states'

-- what is shown: whatever the inputs are that the saved states stand for, the plain game with them and with what they predict
abbrev pub Shown : {S : Type 0} → SavedRules S → Peer → List ℕ → S → Type 0
Shown r p states s = (inputs : List ℕ) → Long inputs → Kept r p inputs states → s ≡ shows r.game p.seat (log_of p inputs)
