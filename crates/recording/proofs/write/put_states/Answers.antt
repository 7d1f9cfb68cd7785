use Rattle.std.proofs.Common.{◌≡◌, refl, ap, ◌∙◌, arith}
use Rattle.std.specs.Iterator.Adapters.{enumerate_source, enumerate_count}
use Rattle.std.specs.Slice.Iter.{chunks_exact_rest, chunks_exact_size}
use Rattle.court_game.specs.Snapshots.{state_bytes}
use Rattle.game.specs.Plain.{plays}
use Rattle.recording.specs.Matches.{marks}
use Rattle.recording.proofs.Marked.{played_more, put_more}
use Rattle.recording.proofs.write.put_states.Goals as goal

pub loop-j-init : goal.loop-j-init
unfolding marks plays
loop-j-init c =
    let it = c.into_iter-j-iterator.result in
    let gives = c.into_iter-j-iterator.ensures.into_iter_gives in
    let source = ap enumerate_source gives ∙ c.enumerate-j-items.ensures.source in
    let none : enumerate_count it ≡ 0 = ap enumerate_count gives ∙ c.enumerate-j-items.ensures.count in
    let size = ap chunks_exact_size source ∙ c.chunks_exact.ensures.size in (
      omega arith,
      simp none (record { left_is = ap chunks_exact_rest source ∙ c.chunks_exact.ensures.rest; state_is = c.start-state.ensures; within = omega arith }),
      simp none refl,
    )

pub loop-j-preserved : goal.loop-j-preserved
loop-j-preserved c =
    let s = c.in-Some.ensures.steps in
    let before = c.loop-j.invariant in
    let more = played_more _ _ _ _ _ _ _ before.1 s.0.1.0 (s.0.1.1 ∙ before.0) c.play_frames-state.ensures in
    let j = enumerate_count c.loop-j.j-iterator in
    let bytes = c.save_state.ensures ∙ ap state_bytes more.state_is in (
      s.0.0 ∙ before.0,
      simp s.2 more,
      simp (s.1, s.2) (put_more c.args.states.now c.args.frames.now c.loop-j.states c.save_state.new.part j _ before.2 bytes (omega arith)),
    )
