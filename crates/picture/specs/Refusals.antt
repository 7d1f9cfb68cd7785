-- How a refusal to draw is told to others. Assumes nothing: these are definitions.
use Rattle.std.specs.Prelude.{ℕ, List, ◌++◌, codes}
use Rattle.std.specs.Fmt.{decimal}
use Rattle.picture.specs.declared.drawing.Refused.{Refused}
use Rattle.picture.specs.declared.drawing.Refused.TheVariants.{TooShort}

-- lent memory that is too short is refusal 5, and the picture is the third slice that is lent
abbrev pub refusal_number : Refused → ℕ
refusal_number TooShort = 5

abbrev pub refusal_place : Refused → ℕ
refusal_place TooShort = 3

-- as people are told: "refused 5 at 3"
abbrev pub refusal_text : Refused → List ℕ
refusal_text f = codes "refused " ++ decimal (refusal_number f) ++ codes " at " ++ decimal (refusal_place f)
