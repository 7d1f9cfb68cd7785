-- Events in bytes, one behind the other. Assumes nothing: these are definitions, and statements that are proved in proofs/.
use Rattle.std.specs.Prelude.{◌≡◌, ℕ, ◌+◌, ◌<◌, ◌≤◌, List, [], ◌∷◌, ◌++◌, length, drop, ◌≢◌}
use Rattle.std.specs.List.{flat_map, AllByRecursion}
use Rattle.byte_numbers.specs.Little.{little}
use Rattle.peer.specs.Peers.{Event, tick, arrival}

-- a tick is 0 and its input; bytes that came are 1, their number in two bytes, and they themselves
abbrev pub event_bytes : Event → List ℕ
event_bytes (tick a) = 0 ∷ (a ∷ [])
event_bytes (arrival xs) = 1 ∷ (little 2 (length xs) ++ xs)

-- the number of bytes that came has room in two bytes
abbrev pub Sized : Event → Type 0
Sized (tick a) = Unit {0}
Sized (arrival xs) = length xs < 65536

-- a file that is a row of events
pub record FileOf (es : List Event) (file : List ℕ) : Type 0 where
  pub sized : AllByRecursion Sized es
  pub bytes_are : file ≡ flat_map event_bytes es

-- an event that stands at a place of a file, and where the next one would begin
pub record StandsAt (file : List ℕ) (at : ℕ) (e : Event) (next : ℕ) : Type 0 where
  pub sized : Sized e
  pub next_is : next ≡ at + length (event_bytes e)
  pub within : next ≤ length file
  pub there : drop at file ≡ event_bytes e ++ drop next file

-- bytes with no event at their front: of no kind, or cut short
abbrev pub NoEvent : List ℕ → Type 0
NoEvent xs = (e : Event) (rest : List ℕ) → Sized e → xs ≢ event_bytes e ++ rest

-- a file that is in fault at a byte: events up to there, and then more bytes with no event at their front
pub record FaultyAt (file : List ℕ) (at : ℕ) : Type 0 where
  pub before : List Event
  pub rest : List ℕ
  pub front : FileOf before (flat_map event_bytes before)
  pub bytes_are : file ≡ flat_map event_bytes before ++ rest
  pub place_is : at ≡ length (flat_map event_bytes before)
  pub more : 0 < length rest
  pub none : NoEvent rest

-- a file is one row of events at most, and a row of events is not in fault anywhere
abbrev pub OneRow : Type 0
OneRow =
    (file : List ℕ) (es : List Event) → FileOf es file →
    ((fs : List Event) → FileOf fs file → es ≡ fs) × ((at : ℕ) → FaultyAt file at → ⊥)

-- and no file is in fault at two bytes
abbrev pub OneFault : Type 0
OneFault = (file : List ℕ) (at at' : ℕ) → FaultyAt file at → FaultyAt file at' → at ≡ at'
