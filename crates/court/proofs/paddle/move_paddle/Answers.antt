use Rattle.std.proofs.Common.{◌≡◌, pos, ◌+ℤ◌, ap, ◌∙◌, w32, SFits, rules}
use Rattle.std.proofs.lemmas.Int.{to_z-of_z}
use Rattle.court.specs.Frame.{between, paddle_moved, moved_x, moved_y}
use Rattle.court.proofs.Ranges.{paddle_from}
use Rattle.court.proofs.paddle.move_paddle.Goals as goal

pub returns-clause-value : goal.returns-clause-value
unfolding paddle_moved
returns-clause-value c =
    let p = c.args.p in
    let half = c.args.half in
    let fx : SFits w32 p.x = search rules in
    let fy : SFits w32 p.y = search rules in
    let fl : SFits w32 half.least = search rules in
    let fh : SFits w32 half.most = search rules in
    let fi : SFits w32 c.step.result = search rules in
    let fj : SFits w32 c.step-2.result = search rules in
    let fa : SFits w32 (p.x +ℤ c.step.result) = search rules in
    let fb : SFits w32 (p.y +ℤ c.step-2.result) = search rules in
    let f1 : SFits w32 c.nearest.result = search rules in
    let f2 : SFits w32 c.nearest-2.result = search rules in
    let e1 : c.nearest.result ≡ moved_x half.least half.most p.x c.args.input.0 = (simp to_z-of_z at c.nearest.ensures.value) ∙ ap (λ t. between half.least half.most (p.x +ℤ t)) c.step.ensures.value in
    let e2 : c.nearest-2.result ≡ moved_y p.y c.args.input.0 = (simp to_z-of_z at c.nearest-2.ensures.value) ∙ ap (λ t. between (pos 2048) (pos 28672) (p.y +ℤ t)) c.step-2.ensures.value in
    simp to_z-of_z (paddle_from _ _ _ _ e1 e2)
