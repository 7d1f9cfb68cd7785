use Rattle.std.proofs.Common.{◌≡◌, vec_items, sym, ap, ◌∙◌, subst}
use Rattle.network.specs.Network.{facing}
use Rattle.exchange.specs.declared.moves.Act.{Act}
use Rattle.exchange.specs.declared.moves.Act.TheVariants.{Tick}
use Rattle.peer.specs.Peers.{tick}
use Rattle.exchange.specs.Moves.{acted, memory_of, PeerAt, PacketsAt}
use Rattle.exchange.proofs.Machines.{delivered_packets}
use Rattle.exchange.specs.Tallies.{counted_at, counted_by}
use Rattle.exchange.proofs.Tallies.{said_there, delivered_tally}
use Rattle.exchange.proofs.machine.Machine.act.Goals as goal

pub returns-in_ok-tick-in-Tick-clause-at : goal.returns-in_ok-tick-in-Tick-clause-at
returns-in_ok-tick-in-Tick-clause-at c = λ window n seat stands packets sent.
    let P : Act → Type 0 = λ a. PeerAt window (acted window n seat a) seat (memory_of c.tick.new.self) × PacketsAt (acted window n seat a) (facing seat) (vec_items c.tick.new.sent) in
    subst P (sym c.in-Tick.is) (c.in_ok-tick-in-Tick.ensures.at window n seat stands sent)

pub returns-in-Deliver-clause-at : goal.returns-in-Deliver-clause-at
returns-in-Deliver-clause-at c = λ window n seat stands packets sent.
    let P : Act → Type 0 = λ a. PeerAt window (acted window n seat a) seat (memory_of c.deliver.new.self) × PacketsAt (acted window n seat a) (facing seat) (vec_items c.args.sent.now) in
    subst P (sym c.in-Deliver.is) (c.deliver.ensures.at window n seat stands packets, delivered_packets window n seat (facing seat) c.in-Deliver.number _ sent)

pub returns-in_ok-tick-in-Tick-clause-tally : goal.returns-in_ok-tick-in-Tick-clause-tally
returns-in_ok-tick-in-Tick-clause-tally c = λ window n seat stands packets.
    let a = c.in-Tick.input in
    let t = c.args.self.now.tally in
    let P : Act → Type 0 = λ k. c.tick.new.self.tally ≡ counted_at window n seat k t in
    subst P (sym c.in-Tick.is) (c.in_ok-tick-in-Tick.ensures.tally ∙ ap (λ o. counted_by (Tick a) o t) (said_there window n seat (memory_of c.args.self.now) (tick a) stands))

pub returns-in_err-tick-in-Tick-clause-tally : goal.returns-in_err-tick-in-Tick-clause-tally
returns-in_err-tick-in-Tick-clause-tally c = λ window n seat stands packets.
    let a = c.in-Tick.input in
    let t = c.args.self.now.tally in
    let P : Act → Type 0 = λ k. c.tick.new.self.tally ≡ counted_at window n seat k t in
    subst P (sym c.in-Tick.is) (c.in_err-tick-in-Tick.ensures.tally ∙ ap (λ o. counted_by (Tick a) o t) (said_there window n seat (memory_of c.args.self.now) (tick a) stands))

pub returns-in-Deliver-clause-tally : goal.returns-in-Deliver-clause-tally
returns-in-Deliver-clause-tally c = λ window n seat stands packets.
    let P : Act → Type 0 = λ a. c.deliver.new.self.tally ≡ counted_at window n seat a c.args.self.now.tally in
    let did = c.deliver.ensures in
    subst P (sym c.in-Deliver.is) (delivered_tally window n seat c.in-Deliver.number _ (memory_of c.args.self.now) _ _ _ stands packets did.there did.answer did.tally (λ e. ap (λ k. k.tally) (did.idle e)))
