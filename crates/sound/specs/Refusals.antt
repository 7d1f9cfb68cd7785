-- How a refusal to write samples is told to others. Assumes nothing: these are definitions.
use Rattle.std.specs.Prelude.{ℕ, List, ◌++◌, codes}
use Rattle.std.specs.Fmt.{decimal}
use Rattle.sound.specs.declared.samples.Refused.{Refused}
use Rattle.sound.specs.declared.samples.Refused.TheVariants.{TooShort}

-- lent memory that is too short is refusal 5, and the sound has place 6 among what is lent or
-- agreed
abbrev pub refusal_number : Refused → ℕ
refusal_number TooShort = 5

abbrev pub refusal_place : Refused → ℕ
refusal_place TooShort = 6

-- as people are told: "refused 5 at 6"
abbrev pub refusal_text : Refused → List ℕ
refusal_text f =
    codes "refused " ++ decimal (refusal_number f) ++ codes " at " ++ decimal (refusal_place f)
