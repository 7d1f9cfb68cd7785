use Rattle.std.proofs.Common.{◌≡◌, ℕ, List, length, take, drop, ◌∙◌, arith}
use Rattle.std.proofs.lemmas.List.{length-take-le}
use Rattle.game.specs.Seats.{in_order}
use Rattle.recording.proofs.Frames.{confirmed_frames}
use Rattle.recording.proofs.Whole.{ordered_now, ordered_long}
use Rattle.recording.proofs.write.put_confirmed.Goals as goal

pub put_frames-requires : goal.put_frames-requires
put_frames-requires c =
    let n = length c.args.frames.now in
    let few = c.args.peer.now.few in
    ordered_long c.args.peer.now.seat _ _ _ n (ordered_now c.args.peer.now.seat _ _ c.in_order.result c.in_order.ensures) (length-take-le n _ (omega (arith, c.split_at.ensures.front_len, c.split_at.ensures.back_len))) (length-take-le n _ (omega (arith, c.split_at.ensures.front_len, c.split_at.ensures.back_len)))

pub returns : goal.returns
returns c =
    let p = c.args.peer.now in
    let xs = c.args.inputs.now in
    let n = length c.args.frames.now in
    let parts = c.in_order.result in
    let now = ordered_now p.seat _ _ parts c.in_order.ensures in
    let ordered : ◌≡◌ {A = List ℕ × List ℕ} (parts.0.now, parts.1.now) (in_order p.seat (take n (take 1000000 xs)) (take n (drop 1000000 xs))) = cc (now, c.split_at.ensures.front, c.split_at.ensures.back) in
    c.put_frames.ensures ∙ confirmed_frames p xs _ n c.requires.0 c.requires.1 ordered
