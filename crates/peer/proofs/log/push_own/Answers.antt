use Rattle.std.proofs.Common.{take, refl, ap, arith}
use Rattle.std.proofs.lemmas.List.{take_more_set, drop-set-lt}
use Rattle.peer.specs.Lent.{log_of}
use Rattle.peer.proofs.Logs.{log_same}
use Rattle.peer.proofs.log.push_own.Goals as goal

pub returns-clause-log : goal.returns-clause-log
unfolding log_of
returns-clause-log c =
    let p = c.args.p.now in
    let xs = c.args.inputs.now in
    log_same _ _ _ _ _ _ (take_more_set xs p.own c.args.input (omega arith)) (ap (take p.other) (drop-set-lt 1000000 xs p.own c.args.input (omega arith))) refl
