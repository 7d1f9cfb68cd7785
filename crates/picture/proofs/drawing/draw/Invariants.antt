use Rattle.std.proofs.Common.{◌≡◌, ◌*◌, ◌++◌, drop}
use Rattle.picture.specs.Picture.{rows_of}
use Rattle.picture.proofs.drawing.draw.Given as goal

abbrev pub invariant-loop-j : goal.invariant-loop-j
invariant-loop-j l = l.picture ≡ rows_of l.court.state 0 l.j ++ drop (160 * l.j) l.initial.picture
