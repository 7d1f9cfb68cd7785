use Rattle.std.proofs.Common.{◌≡◌, ◌+◌, ◌*◌, length, Some, sym, ap, ◌∙◌, arith, length-drop, inl, inr}
use Rattle.std.specs.Iterator.Adapters.{enumerate_source, enumerate_count, zip_first, zip_second}
use Rattle.std.specs.Slice.Iter.{chunks_rest, chunks_size, chunks_exact_rest, chunks_exact_size}
use Rattle.game.specs.Plain.{plays}
use Rattle.recording.specs.Matches.{marks}
use Rattle.recording.specs.Reading.{differing}
use Rattle.recording.proofs.Marked.{turned, compared_more, found, all_compared}
use Rattle.recording.proofs.held.Recording.wrong_state.Goals as goal

pub loop-j-init : goal.loop-j-init
unfolding marks plays
loop-j-init c =
    let it = c.into_iter-j-iterator.result in
    let source = ap enumerate_source c.into_iter-j-iterator.ensures.into_iter_gives ∙ c.enumerate-j-items.ensures.source in
    let first = ap zip_first source ∙ c.zip.ensures.first in
    let second = ap zip_second source ∙ c.zip.ensures.second in
    let size = ap chunks_exact_size first ∙ c.chunks_exact-parts.ensures.size in
    let many : chunks_exact_size (zip_first (enumerate_source it)) ≡ 600 = omega arith in
    let big : chunks_size (zip_second (enumerate_source it)) ≡ 64 = ap chunks_size second ∙ c.chunks.ensures.size in
    let none : enumerate_count it ≡ 0 = ap enumerate_count c.into_iter-j-iterator.ensures.into_iter_gives ∙ c.enumerate-j-items.ensures.count in
    let frames = ap chunks_exact_rest first ∙ c.chunks_exact-parts.ensures.rest in
    let states = ap chunks_rest second ∙ c.chunks.ensures.rest in (
      ((omega arith, omega arith), tt, inl (let n = ap length frames in simp (many, none) (omega arith))),
      tt,
      (many, big, simp none (record { played = record { left_is = frames; state_is = c.start-state.ensures; within = omega arith }; left_is = states; right = λ i l. absurd (omega arith) })),
    )

pub overflow_add-result : goal.overflow_add-result
overflow_add-result c =
    let s = c.in-Some.ensures.steps in
    let before = c.loop-j.invariant in
    let t = turned _ _ _ _ _ _ _ _ _ _ _ _ _ before.2.2 s.0.0.1 before.2.0 s.0.1.1 before.2.1 c.play_frames-state.ensures in
    let differs : Some c.in-Some-first_difference.at ≡ differing c.in-Some.saved.now c.bytes_of.result = search c.in-Some-first_difference.ensures in
    let here = found _ _ _ _ _ _ _ _ _ before.2.2.right t c.bytes_of.ensures differs in
    omega arith

pub returns-in-Some-first_difference : goal.returns-in-Some-first_difference
returns-in-Some-first_difference c =
    let s = c.in-Some.ensures.steps in
    let before = c.loop-j.invariant in
    let t = turned _ _ _ _ _ _ _ _ _ _ _ _ _ before.2.2 s.0.0.1 before.2.0 s.0.1.1 before.2.1 c.play_frames-state.ensures in
    let differs : Some c.in-Some-first_difference.at ≡ differing c.in-Some.saved.now c.bytes_of.result = search c.in-Some-first_difference.ensures in
    let here = found _ _ _ _ _ _ _ _ _ before.2.2.right t c.bytes_of.ensures differs in
    ap (λ j. Some (64 * j + c.in-Some-first_difference.at)) s.1 ∙ sym here.0

pub loop-j-preserved : goal.loop-j-preserved
loop-j-preserved c =
    let s = c.in-Some.ensures.steps in
    let before = c.loop-j.invariant in
    let t = turned _ _ _ _ _ _ _ _ _ _ _ _ _ before.2.2 s.0.0.1 before.2.0 s.0.1.1 before.2.1 c.play_frames-state.ensures in
    let more = compared_more _ _ _ _ _ _ _ _ before.2.2.right t c.bytes_of.ensures c.in_default.ensures in
    let many : chunks_exact_size (zip_first (enumerate_source c.next.new.self)) ≡ 600 = s.0.0.0 ∙ before.2.0 in
    let big : chunks_size (zip_second (enumerate_source c.next.new.self)) ≡ 64 = s.0.1.0 ∙ before.2.1 in
    let frames = ap length more.played.left_is ∙ length-drop (600 * (enumerate_count c.loop-j.j-iterator + 1)) c.args.self.now.frames.now in (
      ((omega arith, omega arith), tt, inl (simp (many, s.2) (omega arith))),
      tt,
      (many, big, simp s.2 more),
    )

pub returns : goal.returns
returns c =
    sym (all_compared _ _ _ _ _ _ c.loop-j.invariant.2.2 (elim c.in-None.ensures.steps.0 [ inl h ↦ inl (omega (arith, h.1.1.0, c.loop-j.invariant.2.0)) | inr h ↦ inr h.1.1.0 ]))
