use Rattle.std.proofs.Common.{eqb, sym, ◌∙◌}
use Rattle.std.proofs.lemmas.Bool.{cond-true, cond-false, eq-eqb, ne_eqb}
use Rattle.seats.specs.Peers.{with_packet}
use Rattle.lanes.specs.Lanes.{log_in}
use Rattle.lanes.proofs.numbers.Peer.receive.Goals as goal

pub returns-then-seat-self-clause-log : goal.returns-then-seat-self-clause-log
unfolding with_packet log_in
returns-then-seat-self-clause-log g c =
    c.join.ensures.log ∙ sym (cond-false (eqb c.args.seat c.args.self.now.seat) _ _ (ne_eqb c.args.seat c.args.self.now.seat c.if-seat-self.true))

pub returns-else-seat-self-clause-log : goal.returns-else-seat-self-clause-log
unfolding with_packet log_in
returns-else-seat-self-clause-log g c =
    sym (cond-true (eqb c.args.seat c.args.self.now.seat) _ _ (eq-eqb c.args.seat c.args.self.now.seat c.if-seat-self.false))
