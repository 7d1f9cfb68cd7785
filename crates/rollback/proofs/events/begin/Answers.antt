use Rattle.std.proofs.Common.{◌≡◌, ℕ, ◌+◌, ◌%◌, ◌≤◌, min, length, sym, ap, ◌∙◌, arith, rules}
use native.Mathlib.Nat.{zero-mod}
use Rattle.peer.specs.Lent.{seated, after}
use Rattle.peer.proofs.Logs.{log_new}
use Rattle.peer.proofs.Shows.{after_none}
use Rattle.rollback.specs.Saved.{slot, with_slot}
use Rattle.rollback.proofs.Bytes.{slot_same, slot_behind}
use Rattle.rollback.proofs.Windows.{saved_one, saved_as}
use Rattle.rollback.proofs.events.begin.Goals as goal

pub returns-clause-begun : goal.returns-clause-begun
returns-clause-begun g c =
    let r = g.G.SavedGame.saved in
    let law = g.met.G.SavedGame.lawful in
    let window = c.args.window in
    let seat = c.args.seat in
    let p = c.in_ok-p.p in
    let xs = c.args.inputs.now in
    let states = c.args.states.now in
    let saved = c.save_at.new.states in
    let s = g.G.SavedGame.state c.start.result in
    let (seat_is, window_is, own, other, acked) = c.in_ok-p.ensures.new in
    let room = c.in_ok-check_memory.ensures.room in
    let few : 64 ≤ length states = omega (arith, room.states_long) in
    let written : saved ≡ with_slot states 0 (r.coded s) = cc in
    let first : slot saved (0 % (window + 1)) ≡ r.coded (after (seated seat r.game) xs 0 0) =
    ap (slot saved) (zero-mod (window + 1))
    ∙ slot_same states saved (r.coded s) 0 written few (law.long s)
    ∙ ap r.coded (c.start.ensures ∙ sym (after_none seat r.game xs 0)) in
    let one = saved_one r seat window xs 0 saved 0 first in
    let none : (k : ℕ) → k ≤ p.own → after (seated seat r.game) xs 0 k ≡ after (seated seat r.game) xs p.other k = λ k _. ap (λ b. after (seated seat r.game) xs b k) (sym other) in
    record {
      seat_is = seat_is;
      window_is = window_is;
      roomy = record { inputs_long = room.inputs_long; states_long = search rules };
      log_is = log_new p xs own other acked;
      kept = saved_as r seat p.seat window p.window xs xs 0 p.other saved 0 (min p.own p.other) 0 p.own seat_is window_is (omega arith) (omega (arith, own)) none one;
    }

pub returns-clause-behind : goal.returns-clause-behind
returns-clause-behind g c =
    let states = c.args.states.now in
    let bytes = g.G.SavedGame.saved.coded (g.G.SavedGame.state c.start.result) in
    let written : c.save_at.new.states ≡ with_slot states 0 bytes = cc in
    slot_behind states _ bytes 0 1 written (omega arith) (omega (arith, c.in_ok-check_memory.ensures.room.states_long)) (g.met.G.SavedGame.lawful.long _)
