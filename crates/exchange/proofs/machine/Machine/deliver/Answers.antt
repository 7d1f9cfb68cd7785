use Rattle.std.proofs.Common.{◌≡◌, ℕ, leb, List, length, vec_items, sym, ap, ◌∙◌, subst, arith}
use Rattle.std.proofs.lemmas.Bool.{ltb-false, ltb-true}
use Rattle.court_game.specs.Saved.{court_saved}
use Rattle.rollback.specs.declared.outcome.Outcome.TheVariants.{Refused}
use Rattle.peer.specs.Lent.{log_of}
use Rattle.peer.specs.Peers.{arrival}
use Rattle.rollback.specs.Saved.{Happened}
use Rattle.session.specs.Events.{said}
use Rattle.session.specs.Rows.{memory}
use Rattle.exchange.specs.Moves.{memory_of}
use Rattle.exchange.proofs.Machines.{delivered_at, delivered_none, none_refused_at}
use Rattle.exchange.proofs.machine.Machine.deliver.Goals as goal

pub returns-in_err-packet-clause-at : goal.returns-in_err-packet-clause-at
returns-in_err-packet-clause-at c =
    λ window n seat stands packets. delivered_none window n seat c.args.number c.args.packets.now (memory_of c.args.self.now) (omega (arith, ltb-false _ _ (sym c.in_err-packet.ensures.lookup.0))) packets stands

pub returns-clause-at : goal.returns-clause-at
returns-clause-at c = λ window n seat stands packets.
    let m = memory_of c.args.self.now in
    let k = memory c.happen-answer.new.p c.happen-answer.new.inputs c.happen-answer.new.states in
    let found = c.in_ok-packet.ensures.lookup in
    let bytes = c.deref.ensures.value ∙ ap vec_items found.1 in
    let H : List ℕ → Type 0 = λ xs. Happened court_saved m.peer m.inputs m.states (arrival xs) k.peer k.inputs k.states in
    delivered_at window n seat c.args.number c.args.packets.now c.in_ok-packet.packet.now m k (ltb-true _ _ (sym found.0)) packets stands (subst H bytes c.happen-answer.ensures.happens)

pub returns-clause-taken : goal.returns-clause-taken
returns-clause-taken c = λ window ts seat stands packets f e.
    let m = memory_of c.args.self.now in
    let found = c.in_ok-packet.ensures.lookup in
    let bytes = c.deref.ensures.value ∙ ap vec_items found.1 in
    let o : c.happen-answer.result.outcome ≡ Refused f = cc in
    let answer = ap (λ xs. said (λ b. leb b 15) m.peer.window (length m.inputs) (length m.states) (log_of m.peer m.inputs) (arrival xs)) bytes in
    none_refused_at window ts seat c.args.number c.args.packets.now c.in_ok-packet.packet.now m f (ltb-true _ _ (sym found.0)) packets stands (sym o ∙ c.happen-answer.ensures.answer ∙ answer)
