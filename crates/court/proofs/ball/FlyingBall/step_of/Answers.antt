use Rattle.std.proofs.Common.{◌≡◌, ℕ, ◌<◌, ◌≤◌, sym, ap, ◌∙◌, subst, w32, SFits, rules}
use Rattle.std.specs.Prelude.{unsigned_abs}
use Rattle.std.proofs.lemmas.Int.{to_z-of_z}
use Rattle.court.specs.Frame.{step_count, step_length, along, ball_moved, both_at_once}
use Rattle.court.specs.Cues.{cue_at_wall, cue_at_paddles}
use Rattle.court.proofs.Steps.{steps_some, step_short_x, step_short_y}
use Rattle.court.proofs.ball.FlyingBall.step_of.Goals as goal

-- the length of a step by the numbers that the code has of the first ball
length_is : (result total count i d n : ℕ) → result ≡ step_length total count i → total ≡ d → count ≡ n → result ≡ step_length d n i
length_is result total count i d n e f g = e ∙ ap (λ t. step_length t count i) f ∙ ap (λ k. step_length d k i) g

pub length_of_step-by_x-requires-clause-some : goal.length_of_step-by_x-requires-clause-some
length_of_step-by_x-requires-clause-some c = subst (λ n. 0 < n) (sym c.requires.counted) (steps_some c.args.first)

pub length_of_step-by_y-requires-clause-some : goal.length_of_step-by_y-requires-clause-some
length_of_step-by_y-requires-clause-some c = subst (λ n. 0 < n) (sym c.requires.counted) (steps_some c.args.first)

pub directed-requires : goal.directed-requires
directed-requires c =
    let fx : SFits w32 c.args.first.dx = search rules in
    let d : c.unsigned_abs.result ≡ unsigned_abs c.args.first.dx = simp to_z-of_z at c.unsigned_abs.ensures.value in
    let x = length_is _ _ _ _ _ _ c.length_of_step-by_x.ensures d c.requires.counted in
    subst (λ n. n ≤ 768) (sym x) (step_short_x c.args.first c.args.i)

pub directed-requires-2 : goal.directed-requires-2
directed-requires-2 c =
    let fy : SFits w32 c.args.first.dy = search rules in
    let d : c.unsigned_abs-2.result ≡ unsigned_abs c.args.first.dy = simp to_z-of_z at c.unsigned_abs-2.ensures.value in
    let y = length_is _ _ _ _ _ _ c.length_of_step-by_y.ensures d c.requires.counted in
    subst (λ n. n ≤ 768) (sym y) (step_short_y c.args.first c.args.i)

pub returns-clause-ball : goal.returns-clause-ball
returns-clause-ball c =
    let b = c.args.self.heard.ball in
    let first = c.args.first in
    let f1 : SFits w32 first.dx = search rules in
    let f2 : SFits w32 first.dy = search rules in
    let f3 : SFits w32 b.dx = search rules in
    let f4 : SFits w32 b.dy = search rules in
    let f5 : SFits w32 c.directed.result = search rules in
    let f6 : SFits w32 c.directed-2.result = search rules in
    let d : c.unsigned_abs.result ≡ unsigned_abs first.dx = simp to_z-of_z at c.unsigned_abs.ensures.value in
    let e : c.unsigned_abs-2.result ≡ unsigned_abs first.dy = simp to_z-of_z at c.unsigned_abs-2.ensures.value in
    let x = length_is _ _ _ _ _ _ c.length_of_step-by_x.ensures d c.requires.counted in
    let y = length_is _ _ _ _ _ _ c.length_of_step-by_y.ensures e c.requires.counted in
    let by_x = (simp to_z-of_z at c.directed.ensures.value) ∙ ap (along b.dx) x in
    let by_y = (simp to_z-of_z at c.directed-2.ensures.value) ∙ ap (along b.dy) y in
    let met : c.step.result.heard.ball ≡ both_at_once c.args.left c.args.right b (ball_moved c.directed.result c.directed-2.result b) =
    simp to_z-of_z at c.step.ensures.ball in
    met ∙ ap (λ m. both_at_once c.args.left c.args.right b (ball_moved m c.directed-2.result b)) by_x
    ∙ ap (λ m. both_at_once c.args.left c.args.right b (ball_moved (along b.dx (step_length (unsigned_abs first.dx) (step_count first) c.args.i)) m b)) by_y

pub returns-clause-cue : goal.returns-clause-cue
returns-clause-cue c =
    let b = c.args.self.heard.ball in
    let cue = c.args.self.heard.cue in
    let first = c.args.first in
    let l = c.args.left in
    let r = c.args.right in
    let f1 : SFits w32 first.dx = search rules in
    let f2 : SFits w32 first.dy = search rules in
    let f3 : SFits w32 b.dx = search rules in
    let f4 : SFits w32 b.dy = search rules in
    let f5 : SFits w32 c.directed.result = search rules in
    let f6 : SFits w32 c.directed-2.result = search rules in
    let d : c.unsigned_abs.result ≡ unsigned_abs first.dx = simp to_z-of_z at c.unsigned_abs.ensures.value in
    let e : c.unsigned_abs-2.result ≡ unsigned_abs first.dy = simp to_z-of_z at c.unsigned_abs-2.ensures.value in
    let x = length_is _ _ _ _ _ _ c.length_of_step-by_x.ensures d c.requires.counted in
    let y = length_is _ _ _ _ _ _ c.length_of_step-by_y.ensures e c.requires.counted in
    let by_x = (simp to_z-of_z at c.directed.ensures.value) ∙ ap (along b.dx) x in
    let by_y = (simp to_z-of_z at c.directed-2.ensures.value) ∙ ap (along b.dy) y in
    let heard : c.step.result.heard.cue ≡ cue_at_paddles l r (ball_moved c.directed.result c.directed-2.result b) (cue_at_wall c.directed-2.result b cue) =
    simp to_z-of_z at c.step.ensures.cue in
    heard ∙ ap (λ m. cue_at_paddles l r (ball_moved m c.directed-2.result b) (cue_at_wall c.directed-2.result b cue)) by_x
    ∙ ap (λ m. cue_at_paddles l r (ball_moved (along b.dx (step_length (unsigned_abs first.dx) (step_count first) c.args.i)) m b) (cue_at_wall m b cue)) by_y
