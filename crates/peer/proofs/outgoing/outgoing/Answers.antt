use Rattle.std.proofs.Common.{ℕ, List, sym, ap, ◌∙◌, arith}
use Rattle.packet.specs.Wire.{Message}
use Rattle.peer.specs.Lent.{log_of}
use Rattle.peer.proofs.Logs.{other_long, part_sent}
use Rattle.peer.proofs.outgoing.outgoing.Goals as goal

pub returns : goal.returns
unfolding log_of
returns c =
    let p = c.args.p.now in
    let xs = c.args.inputs.now in
    let few = p.few in
    let made = p.made in
    let mk : List ℕ → ℕ → Message = λ is a. record { first = p.acked; inputs = is; ack = a } in (
      c.in_ok-check_inputs.ensures,
      ap (λ is. mk is p.other) (part_sent xs p.own p.acked c.min-to.result made (omega arith) (omega (arith, c.min-to.ensures, c.from.ensures)))
          ∙ ap (mk _) (sym (other_long p xs c.in_ok-check_inputs.ensures)),
    )
