-- What holds of two peers, whatever becomes of the packets between them. Assumes nothing: these are definitions,
-- and statements that are proved in proofs/.
use Rattle.std.specs.Prelude.{◌≡◌, ℕ, ◌+◌, ◌≤◌, Bool, true, List, ◌∷◌, ◌++◌, length, take, Ok}
use Rattle.std.specs.List.{AllByRecursion}
use Rattle.game.specs.Plain.{Game}
use Rattle.game.specs.Seats.{facing}
use Rattle.game.specs.declared.seat.Seat.{Seat}
use Rattle.game.specs.declared.seat.Seat.TheVariants.{Left, Right}
use Rattle.packet.specs.Wire.{message_bytes, reading}
use Rattle.peer.specs.Peers.{Log, Event, new_log, event, run, shows, predicted, AsPredicted, confirmed, confirmed_at, sends}
use Rattle.network.specs.Network.{Network, Turn, send, deliver, peer_at, packets_to, written, network}

-- a list is the beginning of another
abbrev pub Begins : {A : Type 0} → List A → List A → Type 0
Begins {A} xs ys = (zs : List A) × (ys ≡ xs ++ zs)

-- the inputs of the game are such as packets carry
abbrev pub Narrow : (ℕ → Bool) → Type 0
Narrow fits = (a : ℕ) → fits a ≡ true → a ≤ 15

-- ---- two peers, at every network

-- for both: what one has of the other's inputs is the beginning of those that the other made,
-- and of the frames that are confirmed at both, both have the same inputs
abbrev pub SameInputs : Type 0
SameInputs =
    (fits : ℕ → Bool) (window : ℕ) (ts : List Turn) → Narrow fits →
    let n : Network = network fits window ts in
    (seat : Seat) →
    Begins (peer_at n seat).other (peer_at n (facing seat)).own
    × ((k : ℕ) → k ≤ confirmed (peer_at n seat) → k ≤ confirmed (peer_at n (facing seat)) → take k (peer_at n seat).own ≡ take k (peer_at n (facing seat)).other)

-- so both come to the same states, as far as frames are confirmed at both
abbrev pub OneGame : Type 0 → Type 0
OneGame S =
    (g : Game S) (fits : ℕ → Bool) (window : ℕ) (ts : List Turn) → Narrow fits →
    let n : Network = network fits window ts in
    (k : ℕ) → k ≤ confirmed n.left → k ≤ confirmed n.right → confirmed_at g Left n.left k ≡ confirmed_at g Right n.right k

-- none is further ahead of the other's inputs that it has than the window
abbrev pub NotFar : Type 0
NotFar =
    (fits : ℕ → Bool) (window : ℕ) (ts : List Turn) →
    let n : Network = network fits window ts in
    (seat : Seat) → length (peer_at n seat).own ≤ length (peer_at n seat).other + window

-- every packet that was ever written is taken by the peer that it is for, so a radio that changes no bytes causes no refusal
abbrev pub NoneRefused : Type 0
NoneRefused =
    (fits : ℕ → Bool) (window : ℕ) (ts : List Turn) → Narrow fits →
    let n : Network = network fits window ts in
    (seat : Seat) → AllByRecursion (λ m. reading (length (peer_at n seat).own) (message_bytes m) ≡ Ok m) (packets_to n seat)

-- each is a peer to which a row of events happened: what holds of a peer after every row of events holds of both
abbrev pub PeersRun : Type 0
PeersRun =
    (fits : ℕ → Bool) (window : ℕ) (ts : List Turn) →
    let n : Network = network fits window ts in
    (seat : Seat) → (es : List Event) × (peer_at n seat ≡ run fits window new_log es)

-- a packet of the peer at a seat came to the other: it was written when m inputs or more had been made there, with those from the
-- most acknowledged on. `before` are the turns until then, `between` those until it was handed over, and `after` those since
pub record Came (fits : ℕ → Bool) (window m : ℕ) (ts : List Turn) (seat : Seat) : Type 0 where
  pub before : List Turn
  pub between : List Turn
  pub after : List Turn
  pub made : m ≤ length (peer_at (network fits window before) seat).own
  pub so :
      ts ≡ before
      ++ send seat (peer_at (network fits window before) seat).acked 120
      ∷ (between ++ deliver (facing seat) (length (packets_to (network fits window before) (facing seat))) ∷ after)

-- if such a packet of each came to the other, m frames are confirmed at both, whatever else happened before, between and since
abbrev pub BothSureAt : ℕ → Type 0
BothSureAt window =
    (fits : ℕ → Bool) (m : ℕ) (ts : List Turn) → Narrow fits → ((seat : Seat) → Came fits window m ts seat) →
    (seat : Seat) → m ≤ confirmed (peer_at (network fits window ts) seat)

-- so it is with a window of 60 or less
abbrev pub BothSure : Type 0
BothSure = (window : ℕ) → window ≤ 60 → BothSureAt window

-- and not with 61: a peer can then have 122 inputs that are not acknowledged, and a packet has 120
abbrev pub SixtyIsMost : Type 0
SixtyIsMost = BothSureAt 61 → ⊥

-- ---- one peer, whatever bytes come to it

-- frames that are confirmed in a log are confirmed in another, with the same inputs and the same states
abbrev pub Stays : {S : Type 0} → Game S → Seat → Log → Log → Type 0
Stays g seat log to =
    (confirmed log ≤ confirmed to)
    × Begins log.own to.own
    × Begins log.other to.other
    × ((k : ℕ) → k ≤ confirmed log → confirmed_at g seat log k ≡ confirmed_at g seat to k)

-- frames that are confirmed stay confirmed
abbrev pub StaysSure : Type 0 → Type 0
StaysSure S =
    (g : Game S) (seat : Seat) (fits : ℕ → Bool) (window : ℕ) (log : Log) (es : List Event) →
    Stays g seat log (run fits window log es)

-- where the inputs that came are those that were predicted, and only there, the prediction does not change; then nothing that is
-- shown does
abbrev pub Guessed : Type 0 → Type 0
Guessed S =
    (g : Game S) (seat : Seat) (fits : ℕ → Bool) (window : ℕ) (log : Log) (xs : List ℕ) →
    let to : Log = event fits window log (Event.arrival xs) in
    (AsPredicted log to → (predicted to ≡ predicted log) × (shows g seat to ≡ shows g seat log))
    × (predicted to ≡ predicted log → AsPredicted log to)

-- what a peer sends is one of the packets that a peer of a network may write
abbrev pub SendsWritten : Type 0
SendsWritten =
    (fits : ℕ → Bool) (window : ℕ) (es : List Event) →
    let log : Log = run fits window new_log es in
    sends log ≡ written log log.acked 120
