-- What each key adds to an input while it is held. Assumes nothing: these are definitions.
use Rattle.std.specs.Prelude.{ℕ}
use Rattle.court.specs.declared.input.Key.{Key}
use Rattle.court.specs.declared.input.Key.TheVariants.{Left, Right, Up, Down}

abbrev pub mask_of : Key → ℕ
mask_of Left = 1
mask_of Right = 2
mask_of Up = 4
mask_of Down = 8
