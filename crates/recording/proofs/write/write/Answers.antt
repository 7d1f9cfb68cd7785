use Rattle.std.proofs.Common.{◌≡◌, ◌≤◌, ◌*◌, ◌/◌, false, ltb, ◌++◌, length, drop, sym, ap, ◌∙◌, arith, rules, le-ltb}
use Rattle.peer.specs.Lent.{log_of}
use Rattle.recording.specs.Matches.{marks, match_of, match_bytes, match_length}
use Rattle.recording.proofs.Games.{holds_game}
use Rattle.recording.proofs.Whole.{written_whole, frames_long}
use Rattle.recording.proofs.write.write.Goals as goal

pub returns-clause-bytes : goal.returns-clause-bytes
returns-clause-bytes c =
    let p = c.args.p.now in
    let xs = c.args.inputs.now in
    let out = c.args.out.now in
    let m = match_of p.seat p.window (log_of p xs) in
    let n = c.confirmed-count.result in
    let long : 2000000 ≤ length xs = search rules in
    let many : length m.frames ≡ n = frames_long p xs long ∙ sym c.confirmed-count.ensures in
    let end = c.length_by-end.ensures in
    let l : ltb (length xs) 2000000 ≡ false = le-ltb _ _ long in
    let b : ltb (length out) (match_length (length m.frames)) ≡ false = le-ltb _ _ (omega arith) in
    let k = length c.put_confirmed.new.frames / 600 in
    let lent = c.split_at_mut-frames.ensures.back ∙ ap (drop n) c.split_at_mut-head.ensures.back in
    let states = c.put_states.ensures ∙ ap (λ zs. marks c.put_confirmed.new.frames k ++ drop (64 * k) zs) lent in
    let whole = written_whole out _ _ _ m n many c.put_head.ensures c.put_confirmed.ensures states in
    simp (l, b) (whole ∙ ap (λ i. match_bytes m ++ drop (match_length i) out) (sym many))

pub returns-clause-game : goal.returns-clause-game
returns-clause-game c =
    let p = c.args.p.now in
    let xs = c.args.inputs.now in
    let long : 2000000 ≤ length xs = search rules in
    let many = frames_long p xs long ∙ sym c.confirmed-count.ensures in
    let end = c.length_by-end.ensures in
    holds_game p xs c.args.out.now _ c.length_by-end.result long (omega arith) (omega arith) (returns-clause-bytes c)
