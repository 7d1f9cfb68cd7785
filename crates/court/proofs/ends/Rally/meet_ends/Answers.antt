use Rattle.std.proofs.Common.{◌≡◌, true, false, pos, w32, SFits, rules}
use Rattle.std.proofs.lemmas.Int.{to_z-of_z}
use lib.Signed.{lt_z}
use Rattle.court.specs.Frame.{ends_met}
use Rattle.court.specs.Cues.{cue_at_ends}
use Rattle.court.proofs.ends.Rally.meet_ends.Goals as goal

pub returns-then-x-clause-state : goal.returns-then-x-clause-state
unfolding ends_met
returns-then-x-clause-state c =
    let x = c.args.self.state.ball.x in
    let fx : SFits w32 x = search rules in
    let t : lt_z x (pos 512) ≡ true = simp to_z-of_z at c.if-x.true in
    simp t c.meet_end.ensures.state

pub returns-then-x-2-clause-state : goal.returns-then-x-2-clause-state
unfolding ends_met
returns-then-x-2-clause-state c =
    let x = c.args.self.state.ball.x in
    let fx : SFits w32 x = search rules in
    let t : lt_z x (pos 512) ≡ false = simp to_z-of_z at c.if-x.false in
    let u : lt_z (pos 40448) x ≡ true = simp to_z-of_z at c.if-x-2.true in
    simp (t, u) c.meet_end-then-x-2.ensures.state

pub returns-then-x-clause-cue : goal.returns-then-x-clause-cue
unfolding cue_at_ends
returns-then-x-clause-cue c =
    let x = c.args.self.state.ball.x in
    let fx : SFits w32 x = search rules in
    let t : lt_z x (pos 512) ≡ true = simp to_z-of_z at c.if-x.true in
    simp t c.meet_end.ensures.cue

pub returns-then-x-2-clause-cue : goal.returns-then-x-2-clause-cue
unfolding cue_at_ends
returns-then-x-2-clause-cue c =
    let x = c.args.self.state.ball.x in
    let fx : SFits w32 x = search rules in
    let t : lt_z x (pos 512) ≡ false = simp to_z-of_z at c.if-x.false in
    let u : lt_z (pos 40448) x ≡ true = simp to_z-of_z at c.if-x-2.true in
    simp (t, u) c.meet_end-then-x-2.ensures.cue
