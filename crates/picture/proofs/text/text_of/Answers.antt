use Rattle.std.proofs.Common.{string_bytes}
use Rattle.picture.specs.Text.{text_from}
use Rattle.picture.proofs.Texts.{text_more, text_done}
use Rattle.picture.proofs.text.text_of.Goals as goal

pub loop-k-preserved : goal.loop-k-preserved
loop-k-preserved c =
    text_more (string_bytes c.loop-k.text) (string_bytes c.push_dot.new.text) c.args.picture.now (text_from 0 c.args.picture.now) c.loop-k.k c.loop-k-test.true c.in_ok-push_dot.ensures c.loop-k.invariant

pub returns : goal.returns
returns c =
    text_done (string_bytes c.loop-k.text) c.args.picture.now (text_from 0 c.args.picture.now) c.loop-k.k c.loop-k-test.false c.loop-k.invariant
