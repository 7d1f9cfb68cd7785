use Rattle.std.proofs.Common.{◌≡◌, ℕ, true, false, leb, List, [], ◌∷◌, ◌++◌, map, vec_items, Vec, Global, sym, refl, ap, ◌∙◌, subst, append-nil}
use Rattle.network.specs.Network.{facing}
use Rattle.peer.specs.Lent.{log_of}
use Rattle.peer.specs.Peers.{tick, sends}
use Rattle.session.specs.Events.{writes}
use Rattle.std.proofs.lemmas.Slice.{pushed}
use Rattle.std.proofs.lemmas.List.{map_push}
use Rattle.exchange.specs.declared.moves.Act.TheVariants.{Tick}
use Rattle.exchange.specs.Moves.{acted, memory_of, packet_if, PacketsAt}
use Rattle.exchange.proofs.Machines.{ticked_at, packet_more, packet_none}
use Rattle.session.proofs.Sent.{wrote, told_some, told_none, sent_is}
use Rattle.exchange.proofs.machine.Machine.tick.Goals as goal

pub returns-in_ok-push-clause-at : goal.returns-in_ok-push-clause-at
returns-in_ok-push-clause-at c = λ window n seat stands at.
    let a = c.args.input in
    let m = memory_of c.args.self.now in
    let log = log_of c.happen-answer.new.p c.happen-answer.new.inputs in
    let o = c.happen-answer.result.outcome in
    let b = writes (tick a) o in
    let did = c.happen-answer.ensures in
    let peer = ticked_at window n seat a m _ stands did.happens in
    let told = told_some b (sends log) c.in-Some.length (sym c.in-Some.is ∙ did.sent) in
    let fit : leb a 15 ≡ true = sym (wrote seat window _ m o (tick a) stands did.answer) ∙ told.0 in
    let items = pushed (_ ∷ []) refl c.in_ok-push.was c.push.ensures.items in
    let bytes = c.in_ok-from_slice.ensures.items in
    let P : List (Vec ℕ Global) → Type 0 = λ ps. PacketsAt (acted window n seat (Tick a)) (facing seat) ps in
    (peer, subst P (sym items) (packet_more window n seat a _ _ _ fit at peer (bytes ∙ sent_is c.in-Some.length c.happen-answer.new.out _ (sends log) b told.0 told.1 did.packet)))

pub returns-in_default-clause-at : goal.returns-in_default-clause-at
returns-in_default-clause-at c = λ window n seat stands at.
    let a = c.args.input in
    let m = memory_of c.args.self.now in
    let log = log_of c.happen-answer.new.p c.happen-answer.new.inputs in
    let o = c.happen-answer.result.outcome in
    let b = writes (tick a) o in
    let did = c.happen-answer.ensures in
    let none : b ≡ false = told_none b (sends log) (sym c.in_default.is ∙ did.sent) in
    let unfit : leb a 15 ≡ false = sym (wrote seat window _ m o (tick a) stands did.answer) ∙ none in
    (ticked_at window n seat a m _ stands did.happens, packet_none window n seat a _ unfit at)

pub returns-in_ok-push-clause-packet : goal.returns-in_ok-push-clause-packet
returns-in_ok-push-clause-packet c =
    let log = log_of c.happen-answer.new.p c.happen-answer.new.inputs in
    let b = writes (tick c.args.input) c.happen-answer.result.outcome in
    let did = c.happen-answer.ensures in
    let told = told_some b (sends log) c.in-Some.length (sym c.in-Some.is ∙ did.sent) in
    let before = vec_items c.args.sent.now in
    let items = pushed (_ ∷ []) refl c.in_ok-push.was c.push.ensures.items in
    let bytes = c.in_ok-from_slice.ensures.items in
    ap (map vec_items) items
    ∙ map_push vec_items before _
    ∙ ap (λ z. map vec_items before ++ z ∷ []) (bytes ∙ sent_is c.in-Some.length c.happen-answer.new.out _ (sends log) b told.0 told.1 did.packet)
    ∙ ap (λ d. map vec_items before ++ packet_if d (sends log)) (sym told.0)

pub returns-in_default-clause-packet : goal.returns-in_default-clause-packet
returns-in_default-clause-packet c =
    let log = log_of c.happen-answer.new.p c.happen-answer.new.inputs in
    let b = writes (tick c.args.input) c.happen-answer.result.outcome in
    let none : b ≡ false = told_none b (sends log) (sym c.in_default.is ∙ c.happen-answer.ensures.sent) in
    let before = map vec_items (vec_items c.args.sent.now) in
    sym (append-nil before) ∙ ap (λ d. before ++ packet_if d (sends log)) (sym none)
