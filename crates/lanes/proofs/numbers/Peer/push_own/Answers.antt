use Rattle.std.proofs.Common.{◌≡◌, ℕ, ◌+◌, ◌<◌, List, length, set, ap, ap₂, ◌∙◌, arith, rules}
use Rattle.std.proofs.lemmas.List.{map-set, get_or-set_other}
use Rattle.lanes.specs.declared.lane.Lane.{Lane}
use Rattle.lanes.specs.Lanes.{log_in}
use Rattle.lanes.specs.Lent.{lane_counts}
use Rattle.lanes.proofs.Lanes.{place_own, push_log}
use Rattle.lanes.proofs.Lent.{length-lane_counts, lane_known, new_known}
use Rattle.lanes.proofs.numbers.Peer.push_own.Goals as goal

pub returns-clause-log : goal.returns-clause-log
unfolding log_in
returns-clause-log g c =
    let p = c.args.self.now in
    let xs = c.args.inputs.now in
    let counts : List ℕ = lane_counts p in
    let many : length p.lanes ≡ g.row.SEATS = search rules in
    let len = length-lane_counts p many in
    let known = lane_known p.lanes p.seat c.index-self-self.result (omega (arith, many, p.here.0)) in
    let more = map-set (λ (lane : Lane). lane.known) p.lanes p.seat c.longer.result ∙ ap (set counts p.seat) (c.longer.ensures ∙ ap (λ n. n + 1) known) in
    ap₂ (λ ys zs. log_in p.seat ys p.acked zs) more (ap (λ n. set xs n c.args.input) known)
    ∙ push_log p.seat counts p.acked xs c.args.input (omega (arith, len, p.here.0)) c.requires.room (omega (arith, len, c.requires.long))

pub returns-clause-bytes : goal.returns-clause-bytes
returns-clause-bytes g c = λ i kept.
    let p = c.args.self.now in
    let many : length p.lanes ≡ g.row.SEATS = search rules in
    let here : p.seat < length p.lanes = omega (arith, many, p.here.0) in
    let known = lane_known p.lanes p.seat c.index-self-self.result here in
    let more = new_known p.lanes p.seat c.longer.result here in
    get_or-set_other c.args.inputs.now _ i c.args.input 0
    (λ e. kept p.seat p.here.0 (omega (arith, e, known, place_own p.seat)) (omega (arith, e, known, place_own p.seat, more, c.longer.ensures)))
