use Rattle.std.proofs.Common.{◌≡◌, w32, SFits, rules, arith}
use Rattle.std.proofs.lemmas.Int.{to_z-of_z}
use Rattle.std.specs.Prelude.{unsigned_abs}
use Rattle.court.specs.Frame.{step_count}
use Rattle.court.proofs.ball.count_steps.Goals as goal

pub returns : goal.returns
unfolding step_count
returns c =
    let fx : SFits w32 c.args.first.dx = search rules in
    let fy : SFits w32 c.args.first.dy = search rules in
    let x : c.unsigned_abs.result ≡ unsigned_abs c.args.first.dx = simp to_z-of_z at c.unsigned_abs.ensures.value in
    let y : c.unsigned_abs-2.result ≡ unsigned_abs c.args.first.dy = simp to_z-of_z at c.unsigned_abs-2.ensures.value in
    omega arith
