use Rattle.std.proofs.Common.{◌≡◌, ℕ, List, [], ◌∷◌, slice_index, ap, ◌∙◌}
use Rattle.court.specs.Bounds.{clamped_in}
use Rattle.court.specs.declared.state.State.{State}
use Rattle.court.proofs.Ranges.{clamped_same}
use Rattle.sound.specs.Tones.{Sounding}
use Rattle.court_game.specs.Snapshots.{state_in}
use Rattle.court_game.specs.Sounding.{SoundingCourt}
use Rattle.court_game.proofs.Codes.{state_back}
use Rattle.court_game.proofs.snapshot.load_state.Goals as goal

both : (c d : State) (t u : Sounding) → c ≡ d → t ≡ u → ◌≡◌ {A = SoundingCourt} (record { court = c; tone = t }) (record { court = d; tone = u })
both c d t u e f = cc

pub returns-clause-saved : goal.returns-clause-saved
returns-clause-saved c =
    λ s h e.
    let xs = c.args.part.now in
    let all : c.clamped.result.state ≡ clamped_in (state_in xs) = cc in
    let said : List ℕ → List ℕ = λ zs. slice_index zs 35 ∷ (slice_index zs 36 ∷ []) in
    both _ _ _ _
    (all ∙ ap (λ zs. clamped_in (state_in zs)) e ∙ ap clamped_in (state_back s h.court_in) ∙ clamped_same s.court h.court_in)
    (c.from_bytes.ensures.saved s.tone h.tone_in (ap said e))
