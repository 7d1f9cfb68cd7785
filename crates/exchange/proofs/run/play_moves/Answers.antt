use Rattle.std.proofs.Common.{rules, ◌≡◌, ◌+◌, ◌≤◌, [], map, get_or, take, vec_items, refl, ap, subst, sym, ◌∙◌, arith}
use Rattle.std.proofs.lemmas.List.{take_all}
use Rattle.game.specs.declared.seat.Seat.TheVariants.{Left, Right}
use Rattle.exchange.specs.declared.moves.Act.TheVariants.{Tick}
use Rattle.exchange.specs.declared.moves.Move.{Move}
use Rattle.peer.specs.Lent.{log_of}
use Rattle.peer.specs.Peers.{Log, confirmed}
use Rattle.session.specs.Rows.{After, memory}
use Rattle.exchange.specs.Agreed.{Agree}
use Rattle.exchange.specs.Moves.{acted, after_moves, memory_of, moves_on}
use Rattle.exchange.proofs.Held.{flipped, holds_more, holds_all, holds_agree, holds_sure, moves_more}
use Rattle.exchange.specs.Tallies.{counted_at, counted_for, tally_on, tally_after}
use Rattle.exchange.proofs.Tallies.{tally_more}
use Rattle.exchange.proofs.Machines.{begun_at}
use Rattle.exchange.proofs.run.play_moves.Goals as goal

pub loop-step-init : goal.loop-step-init
unfolding moves_on tally_on
loop-step-init c =
    let right : After Right c.args.window [] (memory c.in_ok-peer-2.peer c.args.right_inputs.now c.begin-2.new.states) = search (rules, c.in_ok-peer-2.ensures.row) in (
      record {
        own_at = begun_at c.args.window Left _ c.in_ok-peer.ensures.row;
        other_at = begun_at c.args.window Right _ right;
        own_packets = ap (map vec_items) c.new-to_left.ensures.items;
        other_packets = ap (map vec_items) c.new-to_right.ensures.items;
      },
      ((refl, refl), (refl, refl)),
      (c.new.ensures, c.new-2.ensures),
    )

pub loop-step-preserved : goal.loop-step-preserved
loop-step-preserved c =
    let window = c.args.window in
    let row = c.args.row.now in
    let i = c.loop-step.step-index in
    let d : Move = record { seat = Left; act = Tick 0 } in
    let act = (get_or row i d).act in
    let n = after_moves window (take i row) in
    let h = c.loop-step.invariant.0 in
    let lent = c.loop-step.invariant.1 in
    let counted = c.loop-step.invariant.2 in
    let more = moves_more window row i d c.loop-step-test.true in
    let on_left = tally_more Left window row i d c.loop-step-test.true in
    let on_right = tally_more Right window row i d c.loop-step-test.true in
    elim c.match-step.branch [
      | goal.in-Left+in_ok-act-in-Left w ↦
          let next : after_moves window (take (i + 1) row) ≡ acted window n Left act = more ∙ ap (λ s. acted window n s act) w.in-Left.is in
          let did = w.in_ok-act-in-Left.ensures in
          let at = did.at window n Left h.own_at (ap (map vec_items) w.deref.ensures.value ∙ h.own_packets) h.other_packets in
          let left = did.tally window n Left h.own_at (ap (map vec_items) w.deref.ensures.value ∙ h.own_packets) ∙ ap (counted_at window n Left act) counted.0 ∙ ap (λ s. counted_for Left window n s act (tally_after window Left (take i row))) (sym w.in-Left.is) ∙ sym on_left in
          let right = counted.1 ∙ ap (λ s. counted_for Right window n s act (tally_after window Right (take i row))) (sym w.in-Left.is) ∙ sym on_right in
          simp (w.left-is, w.right-is, w.to_left-is, w.to_right-is, next) (holds_more window n Left act _ _ _ _ _ _ h at, ((did.lent.0 ∙ lent.0.0, did.lent.1 ∙ lent.0.1), lent.1), (left, right))
      | goal.in-Right+in_ok-act-in-Right w ↦
          let next : after_moves window (take (i + 1) row) ≡ acted window n Right act = more ∙ ap (λ s. acted window n s act) w.in-Right.is in
          let did = w.in_ok-act-in-Right.ensures in
          let at = did.at window n Right h.other_at (ap (map vec_items) w.deref-in-Right.ensures.value ∙ h.other_packets) h.own_packets in
          let left = counted.0 ∙ ap (λ s. counted_for Left window n s act (tally_after window Left (take i row))) (sym w.in-Right.is) ∙ sym on_left in
          let right = did.tally window n Right h.other_at (ap (map vec_items) w.deref-in-Right.ensures.value ∙ h.other_packets) ∙ ap (counted_at window n Right act) counted.1 ∙ ap (λ s. counted_for Right window n s act (tally_after window Right (take i row))) (sym w.in-Right.is) ∙ sym on_right in
          simp (w.left-is, w.right-is, w.to_left-is, w.to_right-is, next) (flipped window _ Right _ _ _ _ (holds_more window n Right act _ _ _ _ _ _ (flipped window n Left _ _ _ _ h) at), (lent.0, (did.lent.0 ∙ lent.1.0, did.lent.1 ∙ lent.1.1)), (left, right))
    ]

pub returns-clause-agree : goal.returns-clause-agree
returns-clause-agree c =
    let row = c.args.row.now in
    let l = memory_of c.loop-step.left in
    let r = memory_of c.loop-step.right in
    let agree : Agree c.args.window (log_of l.peer l.inputs) (log_of r.peer r.inputs) = holds_agree c.args.window row l r _ _ (holds_all c.args.window row c.loop-step.step-index l r _ _ (omega arith) c.loop-step.invariant.0) in
    search (rules, agree)

pub returns-clause-sure : goal.returns-clause-sure
returns-clause-sure c = λ m ts e came.
    let row = c.args.row.now in
    let l = memory_of c.loop-step.left in
    let r = memory_of c.loop-step.right in
    let sure : (m ≤ confirmed (log_of l.peer l.inputs)) × (m ≤ confirmed (log_of r.peer r.inputs)) = holds_sure c.args.window row l r _ _ m ts (holds_all c.args.window row c.loop-step.step-index l r _ _ (omega arith) c.loop-step.invariant.0) e came in
    let P : Log → Type 0 = λ log. m ≤ confirmed log in
    (subst P (ap (log_of l.peer) (search rules)) sure.0, subst P (ap (log_of r.peer) (search rules)) sure.1)

pub returns-clause-tally : goal.returns-clause-tally
returns-clause-tally c =
    let window = c.args.window in
    let all = take_all c.loop-step.step-index c.args.row.now (omega arith) in
    let counted = c.loop-step.invariant.2 in
    (counted.0 ∙ ap (tally_after window Left) all, counted.1 ∙ ap (tally_after window Right) all)
