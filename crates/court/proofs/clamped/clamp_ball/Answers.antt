use Rattle.std.proofs.Common.{◌≡◌, pos, neg_ℤ, w32, SFits, rules}
use Rattle.std.proofs.lemmas.Int.{to_z-of_z}
use Rattle.court.specs.Frame.{between}
use Rattle.court.proofs.clamped.clamp_ball.Goals as goal

pub returns-clause-value : goal.returns-clause-value
returns-clause-value c =
    let b = c.args.b in
    let g1 : SFits w32 b.x = search rules in
    let g2 : SFits w32 b.y = search rules in
    let g3 : SFits w32 b.dx = search rules in
    let g4 : SFits w32 b.dy = search rules in
    let f1 : SFits w32 c.nearest.result = search rules in
    let f2 : SFits w32 c.nearest-2.result = search rules in
    let f3 : SFits w32 c.nearest-3.result = search rules in
    let f4 : SFits w32 c.nearest-4.result = search rules in
    let e1 : c.nearest.result ≡ between (pos 512) (pos 40448) b.x = simp to_z-of_z at c.nearest.ensures.value in
    let e2 : c.nearest-2.result ≡ between (pos 512) (pos 30208) b.y = simp to_z-of_z at c.nearest-2.ensures.value in
    let e3 : c.nearest-3.result ≡ between (neg_ℤ (pos 6144)) (pos 6144) b.dx = simp to_z-of_z at c.nearest-3.ensures.value in
    let e4 : c.nearest-4.result ≡ between (neg_ℤ (pos 6144)) (pos 6144) b.dy = simp to_z-of_z at c.nearest-4.ensures.value in
    simp to_z-of_z cc
