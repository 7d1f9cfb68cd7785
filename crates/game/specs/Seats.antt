-- The two seats. Assumes nothing: these are definitions.
use Rattle.game.specs.declared.seat.Seat.{Seat}
use Rattle.game.specs.declared.seat.Seat.TheVariants.{Left, Right}

-- the other seat
abbrev pub facing : Seat → Seat
facing Left = Right
facing Right = Left

-- what belongs to seat 0 and to seat 1, from what is a seat's own and what is the other's
abbrev pub in_order : {A : Type 0} → Seat → A → A → A × A
in_order Left own other = (own, other)
in_order Right own other = (other, own)
