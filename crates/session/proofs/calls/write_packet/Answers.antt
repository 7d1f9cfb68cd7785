use Rattle.std.proofs.Common.{arith}
use Rattle.session.proofs.Sent.{sends_fit}
use Rattle.session.proofs.calls.write_packet.Goals as goal

pub unwrap-requires-2 : goal.unwrap-requires-2
unwrap-requires-2 c = sends_fit _ _ _ _ c.write.ensures.value (rw c.unwrap.ensures at c.outgoing.ensures).1 (omega arith)
