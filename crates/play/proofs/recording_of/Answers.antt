use Rattle.std.proofs.Common.{◌≡◌, ◌∙◌, min, length, arith}
use Rattle.std.proofs.lemmas.List.{take_at}
use Rattle.recording.specs.Matches.{match_length}
use Rattle.play.proofs.Recorded.{recorded}
use Rattle.play.proofs.recording_of.Goals as goal

pub returns : goal.returns
returns c =
    record {
      row = λ seat window es states a.
          let p = c.args.p.now in
          let out = c.deref_mut.result.now in
          let room : length out ≡ match_length (min p.own p.other) = omega (arith, c.length_of.ensures, c.in_ok-bytes.ensures.len, c.deref_mut.ensures.len) in
          let whole : length c.write.new.out ≡ c.in_ok-bytes.bytes.len = omega arith in
          take_at c.write.new.out _ c.in_ok-bytes.bytes.len whole ∙ recorded seat window es p c.args.inputs.now states out c.write.new.out a room c.write.ensures.bytes;
    }
