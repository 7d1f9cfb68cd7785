use Rattle.std.proofs.Common.{sym}
use Rattle.session.specs.Rows.{memory}
use Rattle.session.proofs.Rowed.{after_more, stays_on, writes_own}
use Rattle.session.proofs.calls.happen.Goals as goal

pub returns-then-is_told-clause-row : goal.returns-then-is_told-clause-row
returns-then-is_told-clause-row c = λ seat window es. after_more seat window es _ _ _ c.carry_out-outcome.ensures.happens

pub returns-else-is_told-clause-row : goal.returns-else-is_told-clause-row
returns-else-is_told-clause-row c = λ seat window es. after_more seat window es _ _ _ c.carry_out-outcome.ensures.happens

pub returns-then-is_told-clause-stays : goal.returns-then-is_told-clause-stays
returns-then-is_told-clause-stays c =
    let did = c.carry_out-outcome.ensures in
    λ seat. stays_on seat _ (memory c.args.p.now c.args.inputs.now c.args.states.now) (memory c.carry_out-outcome.new.p c.carry_out-outcome.new.inputs c.carry_out-outcome.new.states) _ did.happens did.answer did.idle

pub returns-else-is_told-clause-stays : goal.returns-else-is_told-clause-stays
returns-else-is_told-clause-stays c =
    let did = c.carry_out-outcome.ensures in
    λ seat. stays_on seat _ (memory c.args.p.now c.args.inputs.now c.args.states.now) (memory c.carry_out-outcome.new.p c.carry_out-outcome.new.inputs c.carry_out-outcome.new.states) _ did.happens did.answer did.idle

pub returns-then-is_told-clause-own : goal.returns-then-is_told-clause-own
returns-then-is_told-clause-own c =
    λ seat window es. writes_own seat window es _ _ _ _ _ _ _ c.carry_out-outcome.ensures.happens (sym c.if-is_told.ensures) c.write_packet.ensures.length c.write_packet.ensures.bytes
