use Rattle.std.proofs.Common.{◌≡◌, pos, ◌+ℤ◌, neg_ℤ, ap, ◌∙◌, w32, SFits, rules}
use Rattle.std.proofs.lemmas.Int.{to_z-of_z}
use Rattle.court.specs.Frame.{between, sixteenth_of}
use Rattle.court.proofs.ball.bend.Goals as goal

pub returns-clause-value : goal.returns-clause-value
returns-clause-value c =
    let fa : SFits w32 c.args.dy = search rules in
    let fd : SFits w32 c.args.d = search rules in
    let ft : SFits w32 c.sixteenth.result = search rules in
    let fs : SFits w32 (c.args.dy +ℤ c.sixteenth.result) = search rules in
    let fr : SFits w32 c.nearest.result = search rules in
    let e : c.sixteenth.result ≡ sixteenth_of c.args.d = simp to_z-of_z at c.sixteenth.ensures.value in
    simp to_z-of_z ((simp to_z-of_z at c.nearest.ensures.value) ∙ ap (λ t. between (neg_ℤ (pos 6144)) (pos 6144) (c.args.dy +ℤ t)) e)
