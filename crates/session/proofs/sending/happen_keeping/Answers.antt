use Rattle.std.proofs.Common.{Bool, [], ◌++◌, cond, sym, ap, ◌∙◌, append-nil}
use Rattle.packet.specs.Wire.{message_bytes}
use Rattle.peer.specs.Lent.{log_of}
use Rattle.peer.specs.Peers.{arrival, sends}
use Rattle.session.specs.Events.{event_of, writes}
use Rattle.session.specs.Files.{event_bytes}
use Rattle.session.specs.Rows.{log_after, memory}
use Rattle.session.proofs.Kept.{one_written, one_silent}
use Rattle.session.proofs.Sent.{wrote, told_some, sent_is}
use Rattle.session.proofs.sending.happen_keeping.Goals as goal

pub returns-in_ok-keep_packet-clause-kept : goal.returns-in_ok-keep_packet-clause-kept
returns-in_ok-keep_packet-clause-kept c =
    let did = c.happen-answer.ensures in
    let m = sends (log_of c.happen-answer.new.p c.happen-answer.new.inputs) in
    let b = writes (event_of c.args.event) c.happen-answer.result.outcome in
    let told = told_some b m c.in-Some.length (sym c.in-Some.is ∙ did.sent) in
    let bytes = sent_is c.in-Some.length c.happen-answer.new.out _ m b told.0 told.1 did.packet in
    let now = c.args.packets.now.items in
    c.in_ok-keep_packet.ensures.kept
    ∙ ap (λ xs. now ++ event_bytes (arrival xs)) bytes
    ∙ ap (λ (t : Bool). now ++ cond t (event_bytes (arrival (message_bytes m))) []) (sym told.0)

pub returns-in_ok-keep_packet-clause-packets : goal.returns-in_ok-keep_packet-clause-packets
returns-in_ok-keep_packet-clause-packets c =
    λ seat window es a.
    let e = event_of c.args.event in
    let did = c.happen-answer.ensures in
    let told = wrote seat window (log_after window es) (memory c.args.p.now c.args.inputs.now c.args.states.now) c.happen-answer.result.outcome e a did.answer in
    c.in_ok-keep_packet.ensures.kept ∙ ap (λ zs. c.args.packets.now.items ++ zs) (sym (one_written window es e _ _ _ _ _ (did.own seat window es a) c.in-Some.is told))

pub returns-in_default-clause-packets : goal.returns-in_default-clause-packets
returns-in_default-clause-packets c =
    λ seat window es a.
    let e = event_of c.args.event in
    let did = c.happen-answer.ensures in
    let told = wrote seat window (log_after window es) (memory c.args.p.now c.args.inputs.now c.args.states.now) c.happen-answer.result.outcome e a did.answer in
    sym (ap (λ zs. c.args.packets.now.items ++ zs) (one_silent window es e _ _ _ _ (did.own seat window es a) c.in_default.is told) ∙ append-nil _)
