use Rattle.std.proofs.Common.{◌≡◌, ℕ, sym, refl, ◌∙◌, subst, arith, rules}
use Rattle.peer.specs.Lent.{LongStates, seated, after}
use Rattle.rollback.specs.Saved.{Saved}
use Rattle.rollback.proofs.Windows.{after_ok, saved_one, saved_next, next_behind}
use Rattle.rollback.proofs.replay.replay.Goals as goal

pub replay-init : goal.replay-init
replay-init g c =
    let p = c.args.p.now in
    let r = g.G.SavedGame.saved in
    let xs = c.args.inputs.now in
    let from = c.args.from in
    let begun = c.from_saved-game.ensures in
    let states = c.args.states.now in
    record {
      begun = omega arith;
      within = omega arith;
      counted = omega (arith, begun.played);
      behind = λ i h. refl;
      saved = λ e.
          let P : ℕ → Type 0 = λ n. (g.G.SavedGame.state c.from_saved-game.result.state ≡ after (seated p.seat r.game) xs p.other n) × Saved r p.seat p.window xs p.other states from n in
          subst P (sym begun.frame) (
            begun.state (after (seated p.seat r.game) xs p.other from) (after_ok r g.met.G.SavedGame.lawful p.seat xs p.other from) e,
            saved_one r p.seat p.window xs p.other states from e,
          );
    }

pub replay-preserved : goal.replay-preserved
replay-preserved g c =
    let p = c.args.p.now in
    let r = g.G.SavedGame.saved in
    let law = g.met.G.SavedGame.lawful in
    let xs = c.args.inputs.now in
    let k = c.replay.game.frame in
    let from = c.args.from in
    let states = c.replay.states in
    let held = c.replay.invariant in
    let did = c.play_frame.ensures in
    let s = g.G.SavedGame.state c.play_frame.new.self.state in
    let room : LongStates p.window states = search rules in
    record {
      begun = omega arith;
      within = omega arith;
      counted = omega (arith, did.played);
      behind = λ i h. next_behind p.window _ _ _ _ room (law.long s) did.saved i h ∙ held.behind i h;
      saved = λ e.
          let was = held.saved e in
          let P : ℕ → Type 0 = λ n. (s ≡ after (seated p.seat r.game) xs p.other n) × Saved r p.seat p.window xs p.other c.play_frame.new.states from n in
          subst P (sym did.frame) (saved_next r law p.seat p.window xs p.other states _ from k _ s (omega arith) room did.state did.saved was.0 was.1);
    }
