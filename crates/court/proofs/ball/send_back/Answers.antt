use Rattle.std.proofs.Common.{refl, pos, ◌-ℤ◌, w32, SFits, rules}
use Rattle.std.proofs.lemmas.Int.{to_z-of_z}
use Rattle.court.proofs.Ranges.{ball_from}
use Rattle.court.proofs.Signs.{sub_neg}
use Rattle.court.proofs.ball.send_back.Goals as goal

pub returns : goal.returns
returns c =
    let fx : SFits w32 c.args.before.x = search rules in
    let fy : SFits w32 c.args.before.y = search rules in
    let fdx : SFits w32 c.args.moved.dx = search rules in
    let fdy : SFits w32 c.args.moved.dy = search rules in
    let fn : SFits w32 (pos 0 -ℤ c.args.moved.dx) = search rules in
    simp to_z-of_z (ball_from _ _ _ _ _ _ _ _ refl refl (sub_neg c.args.moved.dx) refl)
