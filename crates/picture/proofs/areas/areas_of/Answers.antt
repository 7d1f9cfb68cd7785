use Rattle.std.proofs.Common.{w32, SFits, rules}
use Rattle.std.proofs.lemmas.Int.{to_z-of_z}
use Rattle.picture.proofs.areas.areas_of.Goals as goal

pub returns : goal.returns
returns c =
    let a : SFits w32 c.args.court.state.ball.x = search rules in
    let b : SFits w32 c.args.court.state.ball.y = search rules in
    let d : SFits w32 c.args.court.state.left.x = search rules in
    let e : SFits w32 c.args.court.state.left.y = search rules in
    let f : SFits w32 c.args.court.state.right.x = search rules in
    let g : SFits w32 c.args.court.state.right.y = search rules in
    record {
      ball_x = simp to_z-of_z at c.run_of.ensures;
      ball_y = simp to_z-of_z at c.run_of-2.ensures;
      left_x = simp to_z-of_z at c.run_of-3.ensures;
      left_y = simp to_z-of_z at c.run_of-4.ensures;
      right_x = simp to_z-of_z at c.run_of-5.ensures;
      right_y = simp to_z-of_z at c.run_of-6.ensures;
    }
