use Rattle.std.proofs.Common.{sym, ap, ◌∙◌, subst}
use Rattle.packet.specs.Wire.{Proper, message_bytes}
use Rattle.packet.proofs.Checks.{started, ended}
use Rattle.packet.proofs.Readings.{read_back, read_proper, as_read}
use Rattle.packet.proofs.message.Packet.read.Goals as goal

pub returns-clause-proper : goal.returns-clause-proper
returns-clause-proper c =
    let own = c.args.own in
    let xs = c.args.packet.now in
    let s = c.in_ok-first.ensures in
    let t = c.in_ok-ack.ensures in
    subst (Proper own) (sym (as_read xs _ _ _ s.1 t.1 t.2)) (read_proper own xs (started xs s.0) (ended own xs t.0))

pub returns-clause-back : goal.returns-clause-back
returns-clause-back c =
    let own = c.args.own in
    let xs = c.args.packet.now in
    let s = c.in_ok-first.ensures in
    let t = c.in_ok-ack.ensures in
    ap message_bytes (as_read xs _ _ _ s.1 t.1 t.2) ∙ read_back own xs (λ i. (c.type_inv.packet i).fits) (started xs s.0) (ended own xs t.0)
