use Rattle.std.proofs.Common.{◌≡◌, ◌<◌, min, refl, ap, arith, rules}
use Rattle.peer.specs.Lent.{Long, seated}
use Rattle.rollback.specs.Saved.{Saved}
use Rattle.rollback.proofs.Joins.{found, found_after}
use Rattle.rollback.proofs.Predictions.{to_play_is, taken_same}
use Rattle.rollback.proofs.Windows.{saved_as}
use Rattle.rollback.proofs.incoming.take_in.Goals as goal

pub returns-in-Some : goal.returns-in-Some
unfolding Saved
returns-in-Some g c =
    let p = c.args.p.now in
    let q = c.join.new.p in
    let r = g.G.SavedGame.saved in
    let xs = c.args.inputs.now in
    let ys = c.join.new.inputs in
    let states = c.args.states.now in
    let w = c.in-Some.wrong in
    let j = c.join.ensures in
    let (new, low, wrong, right) = c.in-Some.ensures in
    let same : q.own ≡ p.own = j.own in
    let behind : w < p.own = omega (arith, low) in
    let ly : Long ys = search rules in
    let f = found p q xs ys w same j.more j.untouched (λ _. omega (arith, low)) (λ i h k _. right i h k) (λ _. wrong) in
    let n = to_play_is p q xs ys w c.requires.roomy.inputs_long ly same (omega arith) f.right f.wrong in
    record {
      window = j.window;
      seat = j.seat;
      log = j.log;
      untouched = j.untouched;
      behind = λ i h. c.replay.ensures.behind i (omega (arith, j.window));
      keeps = λ kept.
          saved_as r q.seat q.seat q.window q.window ys ys q.other q.other c.replay.new.states _ _ q.own q.own refl refl (omega (arith, low)) (omega arith) (λ k l. refl)
          (c.replay.ensures.saved
          (saved_as r p.seat q.seat p.window q.window xs ys p.other q.other states _ (min p.own p.other) p.own w j.seat j.window (omega arith) (omega arith)
          (found_after (seated p.seat r.game) p q xs ys w (omega arith) f) kept _ (omega (arith, new)) (omega arith)));
      count = omega (arith, c.replay.ensures.count, n);
      few = omega (arith, c.replay.ensures.count, new, p.ahead);
      guessed = λ e. absurd (f.wrong behind (taken_same p q xs ys w c.requires.roomy.inputs_long ly behind j.more (ap (λ l. l.own) j.log) e));
    }

pub returns-in-None : goal.returns-in-None
returns-in-None g c =
    let p = c.args.p.now in
    let q = c.join.new.p in
    let r = g.G.SavedGame.saved in
    let xs = c.args.inputs.now in
    let ys = c.join.new.inputs in
    let states = c.args.states.now in
    let w = p.own in
    let j = c.join.ensures in
    let same : q.own ≡ p.own = j.own in
    let right = c.in-None.ensures in
    let ly : Long ys = search rules in
    let f = found p q xs ys w same j.more j.untouched (λ h. omega (arith, h)) (λ i h k l. right i h (omega arith)) (λ h. omega (arith, h)) in
    let n = to_play_is p q xs ys w c.requires.roomy.inputs_long ly same (omega arith) f.right f.wrong in
    record {
      window = j.window;
      seat = j.seat;
      log = j.log;
      untouched = j.untouched;
      behind = λ i h. refl;
      keeps = λ kept.
          saved_as r p.seat q.seat p.window q.window xs ys p.other q.other states _ _ p.own q.own j.seat j.window (omega (arith, j.more)) (omega arith)
          (λ k l. found_after (seated p.seat r.game) p q xs ys w (omega arith) f k (omega arith)) kept;
      count = omega (arith, n);
      few = omega arith;
      guessed = λ _. (refl, refl);
    }
