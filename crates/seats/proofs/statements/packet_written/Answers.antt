use Rattle.seats.proofs.Packets.{packet_written}
use Rattle.seats.proofs.statements.packet_written.Goals as goal

pub returns : goal.returns
returns c = packet_written
