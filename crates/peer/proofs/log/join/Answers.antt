use Rattle.std.proofs.Common.{◌+◌, ◌-◌, ◌++◌, length, take, drop, sym, refl, ap, ◌∙◌, arith, rules}
use borrow.Rule.Slice.PartMut.{put_mid}
use Rattle.std.proofs.lemmas.Slice.{take-put_mid_below}
use Rattle.packet.specs.Wire.{message_of}
use Rattle.peer.specs.Lent.{log_of}
use Rattle.peer.proofs.Logs.{log_same, other_long, other_put, joined_is, get_or_put_mid_other}
use Rattle.peer.proofs.log.join.Goals as goal

pub returns : goal.returns
unfolding log_of
returns c =
    let p = c.args.p.now in
    let xs = c.args.inputs.now in
    let at = 1000000 + p.other in
    let new = c.fresh-new.result.now in
    let k = (at + length new) - at in
    let ys = c.copy_from_slice.new.self in
    record {
      window = refl;
      seat = refl;
      own = refl;
      more = omega arith;
      log = log_same _ _ _ _ _ _
          (take-put_mid_below at k xs ys p.own (omega arith) (omega arith))
          (ap (λ zs. take (p.other + length new) (drop 1000000 (put_mid at k xs zs))) c.copy_from_slice.ensures.after
          ∙ other_put 1000000 p.other k xs new (omega arith)
          ∙ ap (λ zs. take p.other (drop 1000000 xs) ++ zs) c.fresh-new.ensures.value
          ∙ sym (joined_is (take p.other (drop 1000000 xs)) (message_of c.args.packet) p.other (other_long p xs c.requires.long)))
          c.max-p.ensures;
      untouched = λ i _ no. get_or_put_mid_other at k xs ys i (search rules) (omega arith) (λ h. no (h.0, omega (arith, h.1)));
    }
