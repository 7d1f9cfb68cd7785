use Rattle.std.proofs.Common.{◌≡◌}
use Rattle.std.specs.Iterator.Adapters.{enumerate_source, enumerate_count, zip_first, zip_second}
use Rattle.std.specs.Slice.Iter.{chunks_rest, chunks_size, chunks_exact_rest, chunks_exact_size}
use Rattle.court_game.specs.Held.{sounding_court}
use Rattle.recording.proofs.Marked.{Compared}
use Rattle.recording.proofs.held.Recording.wrong_state.Given as goal

abbrev pub invariant-loop-j : goal.invariant-loop-j
invariant-loop-j l =
    (goal.iterator-loop-j).can_next l.j-iterator × (goal.iterator-loop-j).is_finite l.j-iterator
    × (let pairs = enumerate_source l.j-iterator in
    (chunks_exact_size (zip_first pairs) ≡ 600) × (chunks_size (zip_second pairs) ≡ 64)
    × Compared l.self.frames.now l.self.states.now (sounding_court l.state) (enumerate_count l.j-iterator) (chunks_exact_rest (zip_first pairs)) (chunks_rest (zip_second pairs)))
