use Rattle.std.proofs.Common.{◌≡◌, ℕ, ◌+◌, ◌-◌, ◌*◌, ◌≤◌, true, leb, ◌++◌, length, drop, sym, ap, ◌∙◌, arith}
use borrow.Rule.Slice.PartMut.{put_mid}
use Rattle.std.proofs.lemmas.Bool.{le-leb}
use Rattle.picture.specs.Picture.{rows_of, picture_of}
use Rattle.picture.proofs.Rows.{joins, rows_none}
use Rattle.picture.proofs.drawing.draw.Goals as goal

pub loop-j-preserved : goal.loop-j-preserved
loop-j-preserved c =
    let k : (160 * c.loop-j.j + 160) - 160 * c.loop-j.j ≡ 160 = omega arith in
    ap (λ q. put_mid (160 * c.loop-j.j) q c.loop-j.picture c.draw_row.new.row) k
    ∙ ap (λ l. put_mid (160 * c.loop-j.j) 160 l c.draw_row.new.row) c.loop-j.invariant
    ∙ joins c.args.court.state c.args.picture.now c.draw_row.new.row c.loop-j.j c.draw_row.ensures

pub loop-j-init : goal.loop-j-init
loop-j-init c = ap (λ l. l ++ c.args.picture.now) (sym (rows_none c.args.court.state))

pub returns-clause-picture : goal.returns-clause-picture
unfolding picture_of
returns-clause-picture c =
    let n : 19200 ≤ length c.args.picture.now = omega (arith, c.if-picture-lt-LENGTH.false) in
    let t : leb 19200 (length c.args.picture.now) ≡ true = le-leb 19200 (length c.args.picture.now) n in
    let e : c.loop-j.j ≡ 120 = omega arith in
    simp t (c.loop-j.invariant ∙ ap (λ (j : ℕ). rows_of c.args.court.state 0 j ++ drop (160 * j) c.args.picture.now) e)
