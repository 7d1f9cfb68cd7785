use Rattle.std.proofs.Common.{◌≡◌, pos, w32, SFits, rules}
use Rattle.std.proofs.lemmas.Int.{to_z-of_z}
use Rattle.court.specs.Frame.{between}
use Rattle.court.proofs.Ranges.{paddle_from}
use Rattle.court.proofs.clamped.clamp_paddle.Goals as goal

pub returns-clause-value : goal.returns-clause-value
returns-clause-value c =
    let p = c.args.p in
    let half = c.args.half in
    let gx : SFits w32 p.x = search rules in
    let gy : SFits w32 p.y = search rules in
    let gl : SFits w32 half.least = search rules in
    let gh : SFits w32 half.most = search rules in
    let fx : SFits w32 c.nearest.result = search rules in
    let fy : SFits w32 c.nearest-2.result = search rules in
    let e1 : c.nearest.result ≡ between half.least half.most p.x = simp to_z-of_z at c.nearest.ensures.value in
    let e2 : c.nearest-2.result ≡ between (pos 2048) (pos 28672) p.y = simp to_z-of_z at c.nearest-2.ensures.value in
    simp to_z-of_z (paddle_from _ _ _ _ e1 e2)
