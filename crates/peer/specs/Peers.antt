-- What a peer is and does: it plays on without waiting for the other's inputs, and predicts those that have not come.
-- Assumes nothing: these are definitions.
use Rattle.std.specs.Prelude.{◌≡◌, ℕ, zero, suc, ◌+◌, ◌-◌, min, max, Bool, cond, ◌&&◌, List, [], ◌∷◌, ◌++◌, length, take, drop, Ok, Err, Result, ◌==◌, nat_lt}
use Rattle.std.specs.List.{common_prefix_len}
use Rattle.game.specs.Plain.{Game, plays}
use Rattle.game.specs.declared.seat.Seat.{Seat}
use Rattle.game.specs.declared.seat.Seat.TheVariants.{Left, Right}
use Rattle.packet.specs.Wire.{Message, reading}
use Rattle.packet.specs.declared.fault.Fault.{Fault}

-- ---- what a peer has

-- its own inputs; the other's, as far as they came without a gap; and the most of its own that the other acknowledged
pub record Log : Type 0 where
  pub own : List ℕ
  pub other : List ℕ
  pub acked : ℕ

abbrev pub new_log : Log
new_log = record { own = []; other = []; acked = 0 }

-- ---- what happens to it

-- a frame's time, with the input at its own seat; bytes that came from the other, right or wrong
pub data Event : Type 0 where
  tick : ℕ → Event
  arrival : List ℕ → Event

-- it plays on as long as it is not too far ahead of the other's inputs that it has, and up to 1,000,000 frames
abbrev pub goes_on : ℕ → Log → Bool
goes_on window log = nat_lt (length log.own) 1000000 && nat_lt (length log.own) (length log.other + window)

-- the inputs of a packet that are new join on, unless there is a gap before its first
unfoldable pub joined : List ℕ → Message → List ℕ
joined xs m = cond (nat_lt (length xs) m.first) xs (xs ++ drop (length xs - m.first) m.inputs)

-- a packet that is refused changes nothing
abbrev pub heard : Log → Result Message Fault → Log
heard log (Ok m) = record { own = log.own; other = joined log.other m; acked = max log.acked m.ack }
heard log (Err f) = log

unfoldable pub event : (ℕ → Bool) → ℕ → Log → Event → Log
event fits window log (tick a) =
    cond (fits a && goes_on window log) (record { own = log.own ++ a ∷ []; other = log.other; acked = log.acked }) log
event fits window log (arrival xs) = heard log (reading (length log.own) xs)

unfoldable pub run : (ℕ → Bool) → ℕ → Log → List Event → Log
run fits window log [] = log
run fits window log (e ∷ es) = run fits window (event fits window log e) es

-- ---- what it shows

-- n inputs: those that came, and for the others the last that came, or d where none came
unfoldable pub filled : ℕ → ℕ → List ℕ → List ℕ
filled zero d xs = []
filled (suc n) d [] = d ∷ filled n d []
filled (suc n) d (x ∷ xs) = x ∷ filled n x xs

abbrev pub predicted : Log → List ℕ
predicted log = filled (length log.own) 0 log.other

-- what came of the other's inputs since is what was predicted, as far as frames were played
abbrev pub AsPredicted : Log → Log → Type 0
AsPredicted before after = take (length before.own) after.other ≡ take (length after.other) (predicted before)

-- the plain game with its own inputs and the other's, predicted where they have not come
unfoldable pub shows : {S : Type 0} → Game S → Seat → Log → S
shows g Left log = plays g g.start log.own (predicted log)
shows g Right log = plays g g.start (predicted log) log.own

-- how many frames have to be played where the log of what is shown changes: those from the first on whose inputs changed
abbrev pub to_play : Log → Log → ℕ
to_play before after = length after.own - common_prefix_len ◌==◌ (predicted before) (predicted after)

-- ---- what it is sure of

-- confirmed are the frames of which it has both inputs
abbrev pub confirmed : Log → ℕ
confirmed log = min (length log.own) (length log.other)

-- the plain game with the first k inputs that it has of both
unfoldable pub confirmed_at : {S : Type 0} → Game S → Seat → Log → ℕ → S
confirmed_at g Left log k = plays g g.start (take k log.own) (take k log.other)
confirmed_at g Right log k = plays g g.start (take k log.other) (take k log.own)

-- ---- what it sends

-- its inputs from the most acknowledged on, up to 120, and how many of the other's it has
abbrev pub sends : Log → Message
sends log = record { first = log.acked; inputs = take 120 (drop log.acked log.own); ack = length log.other }
