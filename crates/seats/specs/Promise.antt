-- What holds of all peers, whatever becomes of the packets between them.
-- Assumes nothing: these are definitions, and statements that are proved in proofs/.
use Rattle.std.specs.Prelude.{◌≡◌, ℕ, ◌+◌, ◌<◌, ◌≤◌, ◌≢◌, Bool, List, ◌∷◌, ◌++◌, length, take, Ok, slice_index}
use Rattle.std.specs.List.{AllByRecursion}
use Rattle.network.specs.Promise.{Begins, Narrow}
use Rattle.seats.specs.Network.{Network, Seat, Turn, send, deliver, packet_from, network}
use Rattle.seats.specs.Packets.{most_packet_inputs, packet_bytes, packet_in}
use Rattle.seats.specs.Peers.{Log, Event, new_log, row, own, frames, fewest, acked_by_all, largest_window, with_event, with_events, predicted_inputs, AsPredicted, shown_state, confirmed, confirmed_state, sent_packet}
use Rattle.seats.specs.Plain.{Game}

-- ---- all peers, at every network

-- for all seats: what one has of another's inputs is the beginning of those that the other made,
-- and of the frames that are confirmed at two peers, both have the same inputs of every seat
abbrev pub SameInputs : Type 0
SameInputs =
    (fits : ℕ → Bool) (window seats : ℕ) (ts : List (Turn seats)) → Narrow fits →
    let n : Network = network fits window ts in
    (i j : Seat seats) →
    Begins (row (n.peers i.0) j.0) (own (n.peers j.0))
    × ((k : ℕ) (at : Seat seats) → k ≤ confirmed (n.peers i.0) → k ≤ confirmed (n.peers j.0) →
    take k (row (n.peers i.0) at.0) ≡ take k (row (n.peers j.0) at.0))

-- so all come to the same states, as far as frames are confirmed
abbrev pub OneGame : Type 0 → Type 0
OneGame S =
    (g : Game S) (fits : ℕ → Bool) (window seats : ℕ) (ts : List (Turn seats)) → Narrow fits →
    let n : Network = network fits window ts in
    (i j : Seat seats) (k : ℕ) → k ≤ confirmed (n.peers i.0) → k ≤ confirmed (n.peers j.0) →
    confirmed_state g (n.peers i.0) k ≡ confirmed_state g (n.peers j.0) k

-- no peer has made more inputs than it has of the slowest other and the window together
abbrev pub NotFar : Type 0
NotFar =
    (fits : ℕ → Bool) (window seats : ℕ) (ts : List (Turn seats)) →
    let n : Network = network fits window ts in
    (i : Seat seats) → length (own (n.peers i.0)) ≤ fewest (n.peers i.0) + window

-- every packet that was ever written is taken by every peer that it can come to
abbrev pub NoneRefused : Type 0
NoneRefused =
    (fits : ℕ → Bool) (window seats : ℕ) (ts : List (Turn seats)) → Narrow fits →
    let n : Network = network fits window ts in
    (i : Seat seats) →
    AllByRecursion (λ p. (p.seat ≡ i.0 → 2 < seats) →
    packet_in seats i.0 (length (own (n.peers i.0))) (packet_bytes seats p) ≡ Ok p) n.packets

-- each is a peer to which a row of events happened: what holds of a peer after every row of events
-- holds of all
abbrev pub PeersRun : Type 0
PeersRun =
    (fits : ℕ → Bool) (window seats : ℕ) (ts : List (Turn seats)) →
    let n : Network = network fits window ts in
    (i : Seat seats) →
    (es : List Event) × (n.peers i.0 ≡ with_events fits window (new_log seats i.0) es)

-- a packet of the peer at i came to the one at j: it was written when m frames or more had been
-- played at i, with the inputs from the most on that all acknowledged. `before` are the turns until
-- then, `between` those until it was handed over, and `after` those since
pub record Came (fits : ℕ → Bool) (window seats m : ℕ) (ts : List (Turn seats)) (i j : Seat seats)
    : Type 0 where
  pub before : List (Turn seats)
  pub between : List (Turn seats)
  pub after : List (Turn seats)
  pub made : m ≤ frames ((network fits window before).peers i.0)
  pub so :
      let n : Network = network fits window before in
      let sent : Turn seats = send i (acked_by_all (n.peers i.0)) most_packet_inputs in
      ts ≡ before ++ sent ∷ (between ++ deliver j (length n.packets) ∷ after)

-- if such a packet of each came to every other, m frames are confirmed at all, whatever else
-- happened before, between and since
abbrev pub AllSureAt : ℕ → Type 0
AllSureAt window =
    (fits : ℕ → Bool) (seats m : ℕ) (ts : List (Turn seats)) → Narrow fits → 2 ≤ seats →
    ((i j : Seat seats) → i.0 ≢ j.0 → Came fits window seats m ts i j) →
    (i : Seat seats) → m ≤ confirmed ((network fits window ts).peers i.0)

-- so it is with a window of 60 or less, at any number of seats
abbrev pub AllSure : Type 0
AllSure = (window : ℕ) → window ≤ largest_window → AllSureAt window

-- and not with one more
abbrev pub SixtyIsMost : Type 0
SixtyIsMost = AllSureAt (largest_window + 1) → ⊥

-- ---- one peer, whatever bytes come to it

-- frames that are confirmed in a log are confirmed in another, with the same inputs and states
abbrev pub Stays : {S : Type 0} → Game S → Log → Log → Type 0
Stays g old new =
    (confirmed old ≤ confirmed new)
    × ((seat : ℕ) → Begins (row old seat) (row new seat))
    × ((k : ℕ) → k ≤ confirmed old → confirmed_state g old k ≡ confirmed_state g new k)

-- frames that are confirmed stay confirmed
abbrev pub StaysSure : Type 0 → Type 0
StaysSure S =
    (g : Game S) (fits : ℕ → Bool) (window : ℕ) (log : Log) (es : List Event) →
    Stays g log (with_events fits window log es)

-- where the inputs that came are those that were predicted, and only there, no prediction changes;
-- then nothing that is shown does
abbrev pub Guessed : Type 0 → Type 0
Guessed S =
    (g : Game S) (fits : ℕ → Bool) (window : ℕ) (old : Log) (xs : List ℕ) →
    let new : Log = with_event fits window old (Event.arrival xs) in
    let Same : Type 0 = (k : ℕ) → k < frames old →
    predicted_inputs new.rows k ≡ predicted_inputs old.rows k in
    (AsPredicted old new → Same × (shown_state g new ≡ shown_state g old))
    × (Same → AsPredicted old new)

-- with more than two seats bytes of its own seat change nothing, whether they are taken or refused
abbrev pub OwnBack : Type 0
OwnBack =
    (fits : ℕ → Bool) (window : ℕ) (log : Log) (xs : List ℕ) →
    2 < length log.rows → slice_index xs 1 ≡ log.seat →
    with_event fits window log (Event.arrival xs) ≡ log

-- what a peer sends is one of the packets that a peer of a network may write
abbrev pub SendsWritten : Type 0
SendsWritten =
    (fits : ℕ → Bool) (window seats : ℕ) (seat : Seat seats) (es : List Event) → 2 ≤ seats →
    let log : Log = with_events fits window (new_log seats seat.0) es in
    sent_packet log ≡ packet_from log (acked_by_all log) most_packet_inputs
