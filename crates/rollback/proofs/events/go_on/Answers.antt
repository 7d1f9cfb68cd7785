use Rattle.std.proofs.Common.{◌≡◌, ℕ, ◌+◌, ◌%◌, ◌≤◌, min, sym, refl, ap, ◌∙◌, arith}
use Rattle.peer.specs.Lent.{LongStates, seated, other_at, after}
use Rattle.rollback.specs.Saved.{Saved, slot}
use Rattle.rollback.proofs.Predictions.{other_same, after_same}
use Rattle.rollback.proofs.Windows.{after_ok, saved_as, saved_next, next_behind}
use Rattle.rollback.proofs.events.go_on.Goals as goal

pub returns-clause-behind : goal.returns-clause-behind
returns-clause-behind g c =
    let q = c.push_own.new.p in
    let s = g.G.SavedGame.state c.play_frame.new.self.state in
    let same = c.push_own.ensures.window in
    let room : LongStates q.window c.args.states.now = omega (arith, c.requires.roomy.states_long, same) in
    λ i h. next_behind q.window _ _ _ _ room (g.met.G.SavedGame.lawful.long s) c.play_frame.ensures.saved i (omega (arith, same))

pub returns-clause-keeps : goal.returns-clause-keeps
unfolding Saved
returns-clause-keeps g c =
    let p = c.args.p.now in
    let q = c.push_own.new.p in
    let r = g.G.SavedGame.saved in
    let law = g.met.G.SavedGame.lawful in
    let xs = c.args.inputs.now in
    let ys = c.push_own.new.inputs in
    let states = c.args.states.now in
    let did = c.push_own.ensures in
    let k = c.from_saved-game.result.frame in
    let at : k ≡ p.own = c.from_saved-game.ensures.frame in
    let few = p.few in
    let room : LongStates q.window states = omega (arith, c.requires.roomy.states_long, did.window) in
    λ kept.
    let lo = min p.own p.other in
    let same : (j : ℕ) → j ≤ k → after (seated p.seat r.game) xs p.other j ≡ after (seated p.seat r.game) ys q.other j =
    λ j l. after_same (seated p.seat r.game) xs ys p.other q.other j
    (λ i h. did.untouched i (λ out. omega (arith, out.0)) (λ out. omega (arith, out.0)))
    (λ i h. other_same xs ys p.other i (λ n m. did.untouched (1000000 + n) (λ out. omega (arith, out.1, did.own, c.requires.few)) (λ out. omega (arith, out.0))) ∙ ap (λ n. other_at n ys i) (sym did.other)) in
    let moved : Saved r q.seat q.window ys q.other states lo k = saved_as r p.seat q.seat p.window q.window xs ys p.other q.other states lo lo p.own k did.seat did.window (omega arith) (omega arith) same kept in
    let game = seated q.seat r.game in
    let last : g.G.SavedGame.state c.from_saved-game.result.state ≡ after game ys q.other k =
    c.from_saved-game.ensures.state (after game ys q.other k) (after_ok r law q.seat ys q.other k)
    (ap (λ i. slot states (i % (p.window + 1))) (sym at) ∙ ap (λ n. slot states (k % (n + 1))) (sym did.window) ∙ moved k (omega arith) (omega arith)) in
    let more = saved_next r law q.seat q.window ys q.other states _ lo k _ _ (omega (arith, did.window, p.near.0, c.requires.near)) room c.play_frame.ensures.state c.play_frame.ensures.saved last moved in
    saved_as r q.seat q.seat q.window q.window ys ys q.other q.other _ lo (min q.own q.other) (k + 1) q.own refl refl (omega (arith, did.own, did.other)) (omega (arith, did.own)) (λ j l. refl) more.1
