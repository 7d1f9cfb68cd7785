use Rattle.std.proofs.Common.{◌≡◌, ℕ, true, false, eqb, sym, ap, ◌∙◌}
use Rattle.std.proofs.lemmas.Bool.{eq-eqb, ne_eqb}
use Rattle.court.specs.declared.cue.Cue.TheVariants.{Nothing}
use Rattle.court.specs.declared.state.State.{State}
use Rattle.court.specs.Cues.{ball_cue, cue_of}
use Rattle.court.specs.Frame.{over, advanced, advanced_by, ball_played, waited, paddles_moved}
use Rattle.court.proofs.Stays.{frame_rests}
use Rattle.court.proofs.bounded.Court.frame.Goals as goal

when_played : (s : State) (a b : ℕ) → over s ≡ false → s.wait ≡ 0 → ball_played (paddles_moved s a b) ≡ advanced s a b
unfolding advanced_by
when_played s a b e w = let f : eqb s.wait 0 ≡ true = eq-eqb s.wait 0 w in simp (e, f)

when_waited : (s : State) (a b : ℕ) → over s ≡ false → (s.wait ≡ 0 → ⊥) → waited (paddles_moved s a b) ≡ advanced s a b
unfolding advanced_by
when_waited s a b e w = let f : eqb s.wait 0 ≡ false = ne_eqb s.wait 0 w in simp (e, f)

heard_rests : (s : State) (a b : ℕ) → over s ≡ true → Nothing ≡ cue_of s a b
unfolding cue_of
heard_rests s a b e = simp e

heard_played : (s : State) (a b : ℕ) → over s ≡ false → s.wait ≡ 0 → ball_cue (paddles_moved s a b) ≡ cue_of s a b
unfolding cue_of
heard_played s a b e w = let f : eqb s.wait 0 ≡ true = eq-eqb s.wait 0 w in simp (e, f)

heard_waited : (s : State) (a b : ℕ) → over s ≡ false → (s.wait ≡ 0 → ⊥) → Nothing ≡ cue_of s a b
unfolding cue_of
heard_waited s a b e w = let f : eqb s.wait 0 ≡ false = ne_eqb s.wait 0 w in simp (e, f)

pub returns-then-is_over-clause-value : goal.returns-then-is_over-clause-value
returns-then-is_over-clause-value c = sym (frame_rests c.args.self.state _ _ (sym c.if-is_over.ensures))

pub returns-then-is_over-clause-cue : goal.returns-then-is_over-clause-cue
returns-then-is_over-clause-cue c = heard_rests c.args.self.state _ _ (sym c.if-is_over.ensures)

pub returns-then-moved-ne0-clause-value : goal.returns-then-moved-ne0-clause-value
returns-then-moved-ne0-clause-value c =
    let m = c.move_paddles-moved.ensures in
    ap waited m ∙ when_waited c.args.self.state _ _ (sym c.if-is_over.ensures) (λ z. c.if-moved-ne0.true (ap (λ (t : State). t.wait) m ∙ z))

pub returns-then-moved-ne0-clause-cue : goal.returns-then-moved-ne0-clause-cue
returns-then-moved-ne0-clause-cue c =
    let m = c.move_paddles-moved.ensures in
    heard_waited c.args.self.state _ _ (sym c.if-is_over.ensures) (λ z. c.if-moved-ne0.true (ap (λ (t : State). t.wait) m ∙ z))

pub returns-else-moved-ne0-clause-value : goal.returns-else-moved-ne0-clause-value
returns-else-moved-ne0-clause-value c =
    let m = c.move_paddles-moved.ensures in
    c.play_ball.ensures.value ∙ ap ball_played m
    ∙ when_played c.args.self.state _ _ (sym c.if-is_over.ensures) (sym (ap (λ (t : State). t.wait) m) ∙ c.if-moved-ne0.false)

pub returns-else-moved-ne0-clause-cue : goal.returns-else-moved-ne0-clause-cue
returns-else-moved-ne0-clause-cue c =
    let m = c.move_paddles-moved.ensures in
    c.play_ball.ensures.cue ∙ ap ball_cue m
    ∙ heard_played c.args.self.state _ _ (sym c.if-is_over.ensures) (sym (ap (λ (t : State). t.wait) m) ∙ c.if-moved-ne0.false)
