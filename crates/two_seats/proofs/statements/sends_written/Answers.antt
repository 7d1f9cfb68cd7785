use Rattle.two_seats.proofs.Promises.{two_sends_written}
use Rattle.two_seats.proofs.statements.sends_written.Goals as goal

pub returns : goal.returns
returns c = two_sends_written
