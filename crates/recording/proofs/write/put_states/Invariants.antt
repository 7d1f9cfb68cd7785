use Rattle.std.proofs.Common.{◌≡◌, ◌*◌, ◌++◌, drop}
use Rattle.std.specs.Iterator.Adapters.{enumerate_source, enumerate_count}
use Rattle.std.specs.Slice.Iter.{chunks_exact_rest, chunks_exact_size}
use Rattle.court_game.specs.Held.{sounding_court}
use Rattle.recording.specs.Matches.{marks}
use Rattle.recording.proofs.Marked.{Played}
use Rattle.recording.proofs.write.put_states.Given as goal

abbrev pub invariant-loop-j : goal.invariant-loop-j
invariant-loop-j l =
    let parts = enumerate_source l.j-iterator in
    let j = enumerate_count l.j-iterator in
    (chunks_exact_size parts ≡ 600)
    × Played l.frames (sounding_court l.state) j (chunks_exact_rest parts)
    × (l.states ≡ marks l.frames j ++ drop (64 * j) l.initial.states)
