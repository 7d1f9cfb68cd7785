use Rattle.std.proofs.Common.{◌≡◌, ◌+◌, ◌++◌, length, take}
use Rattle.std.specs.Iterator.Adapters.{enumerate_source, enumerate_count, zip_first, zip_second}
use Rattle.std.specs.Slice.Iter.{iter_rest}
use Rattle.recording.specs.Matches.{frame_bytes}
use Rattle.recording.proofs.write.put_frames.Given as goal

abbrev pub invariant-loop-k : goal.invariant-loop-k
invariant-loop-k l =
    let pairs = enumerate_source l.k-iterator in
    let k = enumerate_count l.k-iterator in
    let xs = iter_rest (zip_first pairs) in
    let ys = iter_rest (zip_second pairs) in
    (k + length xs ≡ length l.frames)
    × (k + length ys ≡ length l.frames)
    × (take k l.frames ++ frame_bytes xs ys ≡ frame_bytes l.left l.right)
