use Rattle.lanes.specs.Lanes.{log_in}
use Rattle.lanes.proofs.numbers.Peer.acked_by_all.Goals as goal

pub returns : goal.returns
unfolding log_in
returns g c = λ inputs. c.least_of_others.ensures
