use Rattle.std.proofs.Common.{◌≡◌, ◌+◌, ◌-◌, false, ltb, length, take, drop, ap, ◌∙◌, arith, rules}
use Rattle.std.proofs.lemmas.Bool.{le-ltb}
use Rattle.packet.specs.Wire.{message_of, reading}
use Rattle.packet.proofs.Writings.{put_whole, read_again}
use Rattle.packet.proofs.message.Packet.write.Goals as goal

pub returns : goal.returns
returns c =
    let is = c.args.self.inputs.now in
    let out = c.args.out.now in
    let end = 10 + c.from-end.result in
    let many : c.in-Ok.count ≡ length is = search rules in
    let whole : end ≡ 10 + length is = omega (arith, c.from-end.ensures) in
    let few : ltb 120 (length is) ≡ false = le-ltb 120 (length is) (omega arith) in
    let room : ltb (length out) (10 + length is) ≡ false = le-ltb (length out) (10 + length is) (omega arith) in
    let w = put_whole c.args.self.first c.in-Ok.count c.args.self.ack (end - 10) is out c.put_head.new.out c.copy_from_slice.new.self c.put_head.ensures c.copy_from_slice.ensures.after many (omega arith) in
    record {
      value = simp (few, room, whole);
      read = λ own small h. ap (λ zs. reading own (take end zs)) w ∙ read_again own (message_of c.args.self) (drop (10 + length is) out) end whole small h;
      bytes = simp (few, room) w;
    }
