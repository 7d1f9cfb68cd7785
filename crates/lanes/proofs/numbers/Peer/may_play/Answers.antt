use Rattle.std.proofs.Common.{◌≡◌, ℕ, ◌+◌, ◌<◌, ◌≤◌, ◌&&◌, ltb, length, sym, ◌∙◌, arith, rules}
use Rattle.std.proofs.lemmas.Bool.Decides.{nat_tests}
use Rattle.lanes.proofs.Lent.{lane_known, frames_of}
use Rattle.lanes.proofs.numbers.Peer.may_play.Goals as goal

both : (a b x y w : ℕ) → a ≡ b → x ≡ y → a < 1000000 → ltb a (x + w) ≡ (ltb b 1000000 && ltb b (y + w))
both a b x y w e f h = grind (arith, nat_tests)

neither : (a b y : ℕ) → a ≡ b → 1000000 ≤ a → ltb a 1000000 ≡ (ltb b 1000000 && ltb b y)
neither a b y e h = grind (arith, nat_tests)

pub returns-then-own-lt-MOST_FRAMES : goal.returns-then-own-lt-MOST_FRAMES
returns-then-own-lt-MOST_FRAMES g c = λ inputs room.
    let p = c.args.self.now in
    let many : length p.lanes ≡ g.row.SEATS = search rules in
    both _ _ _ _ p.window (lane_known p.lanes p.seat c.index-self-self.result (omega (arith, many, p.here.0)) ∙ sym (frames_of p many inputs room)) (c.fewest.ensures.value inputs room) c.if-own-lt-MOST_FRAMES.true

pub returns-else-own-lt-MOST_FRAMES : goal.returns-else-own-lt-MOST_FRAMES
returns-else-own-lt-MOST_FRAMES g c = λ inputs room.
    let p = c.args.self.now in
    let many : length p.lanes ≡ g.row.SEATS = search rules in
    neither _ _ _ (lane_known p.lanes p.seat c.index-self-self.result (omega (arith, many, p.here.0)) ∙ sym (frames_of p many inputs room)) c.if-own-lt-MOST_FRAMES.false
