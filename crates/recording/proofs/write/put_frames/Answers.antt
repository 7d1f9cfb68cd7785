use Rattle.std.proofs.Common.{◌≡◌, length, ap, inl, inr, arith, length-set}
use Rattle.std.specs.Iterator.Adapters.{enumerate_source, enumerate_count, zip_first}
use Rattle.std.specs.Slice.Iter.{iter_rest}
use Rattle.recording.specs.Matches.{frame_byte}
use Rattle.recording.proofs.Frames.{put_next, put_last}
use Rattle.recording.proofs.write.put_frames.Goals as goal

pub loop-k-preserved : goal.loop-k-preserved
loop-k-preserved c =
    let s = c.in-Some.ensures.steps in
    let before = c.loop-k.invariant in
    let fs = c.loop-k.frames in
    let k = enumerate_count c.loop-k.k-iterator in
    let xs = ap length s.0.0 in
    let ys = ap length s.0.1 in
    let long = length-set fs k (frame_byte c.in-Some.a.now c.in-Some.b.now) in
    simp (s.1, s.2) (omega arith, omega arith, put_next fs _ _ _ _ _ k _ _ before.0 s.0.0 s.0.1 before.2)

pub returns : goal.returns
returns c =
    let before = c.loop-k.invariant in
    let none : length (iter_rest (zip_first (enumerate_source c.loop-k.k-iterator))) ≡ 0 =
    elim c.in-None.ensures.steps.0 [ inl h ↦ h.1.0 | inr h ↦ omega (arith, h.1.0) ] in
    put_last c.loop-k.frames _ _ _ _ before.0 none before.2
