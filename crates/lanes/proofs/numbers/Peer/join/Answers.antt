use Rattle.std.proofs.Common.{◌≡◌, ℕ, List, ◌+◌, ◌-◌, ◌*◌, ◌<◌, [], cond, ltb, drop, length, get_or, set, ap, ap₂, ◌∙◌, arith, rules}
use Rattle.std.proofs.lemmas.List.{map-set}
use borrow.Rule.Slice.PartMut.{put_mid}
use Rattle.peer.proofs.Logs.{get_or_put_mid_other}
use Rattle.packet.specs.Wire.{message_of}
use Rattle.lanes.specs.declared.lane.Lane.{Lane}
use Rattle.lanes.specs.Lanes.{place, log_in}
use Rattle.lanes.specs.Lent.{lane_counts}
use Rattle.lanes.proofs.Lanes.{lanes_few, join_log}
use Rattle.lanes.proofs.Lent.{length-lane_counts, lane_known, new_known}
use Rattle.lanes.proofs.numbers.Peer.join.Goals as goal

pub returns-clause-log : goal.returns-clause-log
returns-clause-log g c =
    let p = c.args.self.now in
    let i : ℕ = c.args.seat in
    let xs : List ℕ = c.args.inputs.now in
    let new : List ℕ = c.fresh-new.result.now in
    let ys : List ℕ = c.copy_from_slice.new.self in
    let counts : List ℕ = lane_counts p in
    let n : ℕ = get_or counts i 0 in
    let k : ℕ = (get_or p.lanes i c.index-self-seat.result).known in
    let many : length p.lanes ≡ g.row.SEATS = search rules in
    let len = length-lane_counts p many in
    let known : k ≡ n = lane_known p.lanes i c.index-self-seat.result (omega (arith, many, c.requires.there)) in
    let more = map-set (λ (lane : Lane). lane.known) p.lanes i c.longer.result ∙ ap (set counts i) (c.longer.ensures ∙ ap (λ m. m + length new) known) in
    let at : ℕ = c.lane_start.result + k in
    let start : ℕ = 1000000 * place p.seat i in
    let put : put_mid at ((at + length new) - at) xs ys ≡ put_mid (start + n) (length new) xs new =
    ap₂ (λ a b. put_mid a b xs ys) (omega (arith, c.lane_start.ensures.start, known)) (omega arith) ∙ ap (put_mid (start + n) (length new) xs) c.copy_from_slice.ensures.after in
    ap₂ (λ cs zs. log_in p.seat cs (set p.acked i c.max.result) zs) more put
    ∙ ap (λ m. log_in p.seat (set counts i (n + length new)) (set p.acked i m) (put_mid (start + n) (length new) xs new)) c.max.ensures
    ∙ join_log p.seat i counts p.acked xs (message_of c.args.packet) new (omega (arith, len, p.here.0)) (omega (arith, len, c.requires.there))
    (c.fresh-new.ensures.value ∙ ap (λ m. cond (ltb m c.args.packet.first) [] (drop (m - c.args.packet.first) c.args.packet.inputs.now)) known)
    (omega (arith, known, c.fresh-new.ensures.fits)) (lanes_few p.lanes) (omega (arith, len, c.requires.long))

pub returns-clause-bytes : goal.returns-clause-bytes
returns-clause-bytes g c = λ i kept.
    let p = c.args.self.now in
    let j : ℕ = c.args.seat in
    let many : length p.lanes ≡ g.row.SEATS = search rules in
    let here : j < length p.lanes = omega (arith, many, c.requires.there) in
    let known = lane_known p.lanes j c.index-self-seat.result here in
    let more = new_known p.lanes j c.longer.result here in
    let start = c.lane_start.ensures.start in
    get_or_put_mid_other _ _ c.args.inputs.now c.copy_from_slice.new.self i (search rules) (omega arith)
    (λ o. kept j c.requires.there (omega (arith, o.0, known, start)) (omega (arith, o.1, known, start, more, c.longer.ensures)))
