use Rattle.std.proofs.Common.{◌≡◌, ℕ, get_or, ap, ◌∙◌}
use Rattle.game.specs.Seats.{in_order}
use Rattle.peer.specs.Lent.{seated, own_at}
use Rattle.peer.proofs.Shows.{seated_frame}
use Rattle.rollback.proofs.frames.Going.play_frame.Goals as goal

pub returns-clause-state : goal.returns-clause-state
unfolding own_at
returns-clause-state g c =
    let rules = g.G.SavedGame.saved in
    let seat = c.args.p.now.seat in
    let old = c.args.self.now in
    let s = g.G.SavedGame.state old.state in
    let own = get_or c.args.inputs.now old.frame 0 in
    let sides : c.in_order-left.result ≡ in_order seat own c.other_input-other.result = cc in
    c.advance-self.ensures
    ∙ ap (λ (i : ℕ × ℕ). rules.game.frame s i.0 i.1) sides
    ∙ seated_frame seat rules.game s own c.other_input-other.result
    ∙ ap ((seated seat rules.game).frame s own) c.other_input-other.ensures
