use Rattle.std.proofs.Common.{◌≡◌, ℕ, ◌+◌, ◌-◌, ◌*◌, ◌≤◌, true, leb, ◌++◌, length, drop, sym, ap, ◌∙◌, arith}
use borrow.Rule.Slice.PartMut.{put_mid}
use Rattle.std.proofs.lemmas.Bool.{le-leb}
use Rattle.sound.specs.Sound.{bytes_of, samples_from, frame_samples}
use Rattle.sound.proofs.Writes.{joins, bytes_none}
use Rattle.sound.proofs.samples.write_samples.Goals as goal

pub loop-j-init : goal.loop-j-init
loop-j-init c = ap (λ l. l ++ c.args.part.now) (sym (bytes_none c.args.tone.kind (800 * c.args.tone.age)))

pub loop-j-preserved : goal.loop-j-preserved
loop-j-preserved c =
    let k : (2 * c.loop-j.j + 2) - 2 * c.loop-j.j ≡ 2 = omega arith in
    ap (λ q. put_mid (2 * c.loop-j.j) q c.loop-j.part c.copy_from_slice.new.self) k
    ∙ ap (λ l. put_mid (2 * c.loop-j.j) 2 l c.copy_from_slice.new.self) c.loop-j.invariant
    ∙ joins c.args.tone.kind c.args.part.now c.copy_from_slice.new.self (800 * c.args.tone.age) c.loop-j.j
    (c.copy_from_slice.ensures.after ∙ c.sample_in_bytes.ensures)

pub returns-clause-samples : goal.returns-clause-samples
unfolding frame_samples
returns-clause-samples c =
    let n : 1600 ≤ length c.args.part.now = omega (arith, c.if-part-lt-FRAME_BYTES.false) in
    let t : leb 1600 (length c.args.part.now) ≡ true = le-leb 1600 (length c.args.part.now) n in
    let e : c.loop-j.j ≡ 800 = omega arith in
    simp t (c.loop-j.invariant ∙ ap (λ (j : ℕ). bytes_of (samples_from c.args.tone.kind (800 * c.args.tone.age) j) ++ drop (2 * j) c.args.part.now) e)
