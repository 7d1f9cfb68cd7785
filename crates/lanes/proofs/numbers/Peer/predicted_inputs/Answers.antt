use Rattle.std.proofs.Common.{◌≡◌, ℕ, List, length, get_or, set, take, drop, length-set, sym, ap, ap₂, ◌∙◌, inl, inr, arith, rules}
use Rattle.std.proofs.lemmas.Bool.{cases_eq}
use Rattle.std.proofs.lemmas.List.{get_or-set_same, get_or-set_other}
use Rattle.seats.specs.Peers.{predicted_input}
use Rattle.lanes.specs.Lanes.{row_in}
use Rattle.lanes.specs.Lent.{lane_counts}
use Rattle.lanes.proofs.Lanes.{lent_predictions}
use Rattle.lanes.proofs.Lent.{length-lane_counts, lane_known}
use Rattle.lanes.proofs.numbers.Peer.predicted_inputs.Goals as goal

pub loop-seat-preserved : goal.loop-seat-preserved
loop-seat-preserved g c =
    let p = c.args.self.now in
    let row : List ℕ = c.loop-seat.row in
    let seat : ℕ = c.loop-seat.seat in
    let v : ℕ = c.predicted_input.result in
    let xs : List ℕ = c.args.inputs.now in
    let many : length p.lanes ≡ g.row.SEATS = search rules in
    let known = lane_known p.lanes seat c.index-self-seat.result (omega (arith, many, c.loop-seat-test.true)) in
    record {
      long = length-set row seat v ∙ c.loop-seat.invariant.long;
      so_far = λ k h.
          elim (cases_eq k seat) [
            | inl e ↦
                ap (λ m. get_or (set row seat v) m 0) e
                ∙ get_or-set_same row seat v 0 (omega (arith, c.loop-seat.invariant.long, c.loop-seat-test.true))
                ∙ c.predicted_input.ensures
                ∙ ap₂ (λ a b. predicted_input (take b (drop a xs)) c.args.frame) c.lane_start-start.ensures.start (omega (arith, known))
                ∙ sym (ap (λ m. predicted_input (row_in p.seat (lane_counts p) xs m) c.args.frame) e)
            | inr e ↦ get_or-set_other row seat k v 0 e ∙ c.loop-seat.invariant.so_far k (omega arith)
          ];
    }

pub returns : goal.returns
returns g c =
    let p = c.args.self.now in
    let many : length p.lanes ≡ g.row.SEATS = search rules in
    let len = length-lane_counts p many in
    lent_predictions p.seat (lane_counts p) p.acked c.args.inputs.now c.args.frame c.loop-seat.row (c.loop-seat.invariant.long ∙ sym len) (λ k h. c.loop-seat.invariant.so_far k (omega (arith, len)))
