use Rattle.std.proofs.Common.{◌≡◌, sym, ap, ◌∙◌}
use Rattle.std.specs.Slice.Iter.{iter_rest}
use Rattle.std.specs.Iterator.Adapters.{zip_first, zip_second}
use Rattle.game.specs.Plain.{plays}
use Rattle.std.proofs.lemmas.Slice.Zip.{either_empty_from_Zip}
use Rattle.game.proofs.Plays.{plays_more, plays_done, plays_append}
use Rattle.game.proofs.plain.play_on.Goals as goal

pub loop-a-preserved : goal.loop-a-preserved
loop-a-preserved g c =
    let now = c.in-Some.ensures.steps in
    plays_more g.G.Game.rules.game (g.G.Game.seen c.loop-a.state) (g.G.Game.seen c.advance-state.result) c.in-Some.a.now c.in-Some.b.now (iter_rest (zip_first c.loop-a.a-iterator)) (iter_rest (zip_second c.loop-a.a-iterator)) (iter_rest (zip_first c.next.new.self)) (iter_rest (zip_second c.next.new.self)) now.0 now.1 c.advance-state.ensures ∙ c.loop-a.invariant

pub returns : goal.returns
returns g c =
    let rules = g.G.Game.rules in
    let all : g.G.Game.seen c.loop-a.state ≡ plays rules.game (g.G.Game.seen c.args.from) c.args.left.now c.args.right.now =
    sym (plays_done rules.game _ _ _ (either_empty_from_Zip c.loop-a.a-iterator c.next.new.self c.next.result c.in-None.is c.next.ensures.steps)) ∙ c.loop-a.invariant in
    record {
      value = all;
      whole = λ xs ys n e. all ∙ ap (λ s. plays rules.game s c.args.left.now c.args.right.now) e ∙ plays_append rules.game rules.game.start xs ys c.args.left.now c.args.right.now n;
    }
