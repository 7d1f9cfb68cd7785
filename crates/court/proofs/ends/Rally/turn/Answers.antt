use Rattle.std.proofs.Common.{◌≡◌, refl, ap, ◌∙◌, w32, SFits, rules}
use Rattle.std.proofs.lemmas.Int.{to_z-of_z}
use Rattle.court.specs.Frame.{inward, size, end_at}
use Rattle.court.proofs.Ranges.{ball_from}
use Rattle.court.proofs.ends.Rally.turn.Goals as goal

pub returns : goal.returns
returns c =
    let b = c.args.self.state.ball in
    let end = c.args.end in
    let fy : SFits w32 b.y = search rules in
    let fdx : SFits w32 b.dx = search rules in
    let fdy : SFits w32 b.dy = search rules in
    let fx : SFits w32 c.end_x.result = search rules in
    let fa : SFits w32 c.abs.result = search rules in
    let fi : SFits w32 c.into_court.result = search rules in
    let ex : c.end_x.result ≡ end_at end = c.end_x.ensures in
    let ea : c.abs.result ≡ size b.dx = simp to_z-of_z at c.abs.ensures.value in
    let ei : c.into_court.result ≡ inward end c.abs.result = simp to_z-of_z at c.into_court.ensures.value in
    simp to_z-of_z (ball_from _ _ _ _ _ _ _ _ ex refl (ei ∙ ap (inward end) ea) refl)
