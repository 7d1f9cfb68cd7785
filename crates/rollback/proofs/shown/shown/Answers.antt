use Rattle.std.proofs.Common.{◌≡◌, ◌+◌, ◌%◌, ap, ◌∙◌, arith}
use Rattle.peer.specs.Lent.{seated, after}
use Rattle.peer.proofs.Shows.{shown_is}
use Rattle.rollback.specs.Saved.{Saved, slot}
use Rattle.rollback.proofs.Windows.{after_ok}
use Rattle.rollback.proofs.shown.shown.Goals as goal

pub returns : goal.returns
unfolding Saved
returns g c =
    let p = c.args.p.now in
    let r = g.G.SavedGame.saved in
    let states = c.args.states.now in
    let at : c.slot_of.result ≡ p.own % (p.window + 1) = cc in (
      c.in_ok-check_states.ensures,
      λ inputs long kept.
          c.load_at.ensures (after (seated p.seat r.game) inputs p.other p.own) (after_ok r g.met.G.SavedGame.lawful p.seat inputs p.other p.own)
          (ap (slot states) at ∙ kept p.own (omega arith) (omega arith))
          ∙ shown_is p.seat r.game p inputs long,
    )
