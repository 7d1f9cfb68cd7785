use Rattle.std.proofs.Common.{cond, get_or, ap, ◌∙◌}
use Rattle.picture.specs.Picture.{glyphs, in_digit}
use Rattle.picture.proofs.Paints.{digit_in, either}
use Rattle.picture.proofs.score.paint_score.Goals as goal

pub returns-then-has : goal.returns-then-has
unfolding glyphs
returns-then-has c i =
    let e1 = c.paint_digit.ensures i in
    let e2 = c.paint_digit-then-has.ensures i in
    let d1 = digit_in c.from.result c.args.court.state.score.left 70 i c.args.j c.from.ensures c.if-has.ensures in
    let d2 = digit_in c.from-then-has.result c.args.court.state.score.right 87 i c.args.j c.from-then-has.ensures c.if-has.ensures in
    e2 ∙ ap (λ q. cond q 4 (get_or c.paint_digit.new.row i 0)) d2
    ∙ ap (cond (in_digit c.args.court.state.score.right 87 i c.args.j) 4) (e1 ∙ ap (λ q. cond q 4 (get_or c.args.row.now i 0)) d1)
    ∙ either (in_digit c.args.court.state.score.left 70 i c.args.j) (in_digit c.args.court.state.score.right 87 i c.args.j) 4 (get_or c.args.row.now i 0)
