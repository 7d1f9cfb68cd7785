use Rattle.std.proofs.Common.{◌≡◌, ◌+◌, ◌-◌, ◌%◌, ◌≤◌}
use Rattle.peer.specs.Lent.{seated, after}
use Rattle.rollback.specs.Saved.{slot, Saved, Behind}
use Rattle.rollback.proofs.replay.replay.Given as goal

abbrev pub invariant-replay : goal.invariant-replay
invariant-replay g l =
    let r = g.G.SavedGame.saved in
    let p = l.p in
    record {
      begun : l.from ≤ l.game.frame;
      within : l.game.frame ≤ p.own;
      counted : l.game.played + l.from ≡ l.game.frame;
      behind : Behind (p.window + 1) l.initial.states l.states;
      saved : slot l.initial.states (l.from % (p.window + 1)) ≡ r.coded (after (seated p.seat r.game) l.inputs p.other l.from) →
          (g.G.SavedGame.state l.game.state ≡ after (seated p.seat r.game) l.inputs p.other l.game.frame)
          × Saved r p.seat p.window l.inputs p.other l.states l.from l.game.frame;
    }

abbrev pub decreases-replay : goal.decreases-replay
decreases-replay g l = l.p.own - l.game.frame
