use Rattle.std.proofs.Common.{arith}
use Rattle.std.proofs.lemmas.Int.{ints}
use Rattle.picture.proofs.Near.{covers}
use Rattle.picture.proofs.areas.run_of.Goals as goal

pub returns : goal.returns
returns c =
    covers c.args.position c.args.half c.args.side _ _ (omega (arith, ints)) (omega (arith, ints)) c.requires.0 c.requires.1.1.0 c.requires.1.1.1
