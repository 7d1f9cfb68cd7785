use Rattle.std.proofs.Common.{◌≡◌, ◌+◌, refl, ap, ◌∙◌, arith, w32, SFits, rules}
use Rattle.std.proofs.lemmas.Int.{to_z-of_z}
use Rattle.byte_numbers.specs.Little.{overwritten}
use Rattle.byte_numbers.proofs.Places.{put_both}
use Rattle.court_game.specs.Snapshots.{whole_bytes}
use Rattle.court_game.proofs.snapshot.put_paddle.Goals as goal

pub returns : goal.returns
returns c =
    let xs = c.args.part.now in
    let at = c.args.at in
    let p = c.args.paddle in
    let fx : SFits w32 p.x = search rules in
    let fy : SFits w32 p.y = search rules in
    let e1 : c.put.new.bytes ≡ overwritten xs at (whole_bytes p.x) = simp to_z-of_z at c.put.ensures in
    let e2 : c.put-2.new.bytes ≡ overwritten c.put.new.bytes (at + 4) (whole_bytes p.y) = simp to_z-of_z at c.put-2.ensures in
    e2 ∙ ap (λ zs. overwritten zs (at + 4) (whole_bytes p.y)) e1 ∙ put_both xs (whole_bytes p.x) (whole_bytes p.y) at (at + 4) refl (omega arith)
