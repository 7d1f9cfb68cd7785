use Rattle.std.proofs.Common.{◌≡◌, ℤ, pos, ◌+ℤ◌, ◌-ℤ◌, ap, ◌∙◌, w32, SFits, rules}
use Rattle.std.proofs.lemmas.Int.{to_z-of_z}
use Rattle.court.specs.Frame.{inward, quickened, bent_by}
use Rattle.court.specs.declared.state.Ball.{Ball}
use Rattle.court.proofs.ball.strike.Goals as goal

pub returns : goal.returns
returns c =
    let fx : SFits w32 c.args.p.x = search rules in
    let fpy : SFits w32 c.args.p.y = search rules in
    let fy : SFits w32 c.args.b.y = search rules in
    let fdx : SFits w32 c.args.b.dx = search rules in
    let fdy : SFits w32 c.args.b.dy = search rules in
    let fd : SFits w32 (c.args.b.y -ℤ c.args.p.y) = search rules in
    let fi : SFits w32 c.into_court.result = search rules in
    let fq : SFits w32 c.quicken.result = search rules in
    let fv : SFits w32 c.into_court-2.result = search rules in
    let fb : SFits w32 c.bend.result = search rules in
    let fs : SFits w32 (c.args.p.x +ℤ c.into_court.result) = search rules in
    let ei : c.into_court.result ≡ inward c.args.side (pos 1024) = c.into_court.ensures.value in
    let eq : c.quicken.result ≡ quickened c.args.b.dx = simp to_z-of_z at c.quicken.ensures.value in
    let ev : c.into_court-2.result ≡ inward c.args.side (quickened c.args.b.dx) =
    (simp to_z-of_z at c.into_court-2.ensures.value) ∙ ap (inward c.args.side) eq in
    let eb : c.bend.result ≡ bent_by c.args.b.dy (c.args.b.y -ℤ c.args.p.y) = simp to_z-of_z at c.bend.ensures.value in
    let mk : ℤ → ℤ → ℤ → Ball = λ i v d. record { x = c.args.p.x +ℤ i; y = c.args.b.y; dx = v; dy = d } in
    simp to_z-of_z (ap (λ i. mk i c.into_court-2.result c.bend.result) ei
    ∙ ap (λ v. mk (inward c.args.side (pos 1024)) v c.bend.result) ev
    ∙ ap (mk (inward c.args.side (pos 1024)) (inward c.args.side (quickened c.args.b.dx))) eb)
