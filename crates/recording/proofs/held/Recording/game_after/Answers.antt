use Rattle.std.proofs.Common.{◌≡◌, ◌-◌, ◌*◌, ◌/◌, map, length, take, drop, sym, ap, ◌∙◌, arith}
use Rattle.std.proofs.lemmas.List.{take_all, take-take}
use Rattle.court_game.specs.Sounding.{sounding_game}
use Rattle.game.specs.Plain.{plays, seat_0, seat_1}
use Rattle.recording.specs.Matches.{sounding_after}
use Rattle.recording.proofs.Frames.{after_on}
use Rattle.recording.proofs.held.Recording.game_after.Goals as goal

pub returns : goal.returns
returns c =
    λ right.
    let fs = c.args.self.now.frames.now in
    let n = c.args.frame in
    let k = 600 * (n / 600) in
    let played = c.in_ok-played.played.now in
    let rest = take (length played - k) (drop k played) in
    let long : length played ≡ n = omega (arith, c.in_ok-played.ensures.lookup.0.3) in
    let z : n - 0 ≡ n = omega arith in
    let e : played ≡ take n fs = c.in_ok-played.ensures.lookup.0.2 ∙ ap (λ i. take i fs) z in
    let before : take k fs ≡ take k played = sym (ap (take k) e ∙ take-take k n fs (omega arith)) in (
      c.in_ok-played.ensures.lookup.0.1,
      c.play_rest.ensures
          ∙ ap (λ s. plays sounding_game s (map seat_0 rest) (map seat_1 rest)) (c.in_ok-from.ensures right ∙ ap sounding_after before)
          ∙ sym (after_on played k (length played - k) (length played) (omega arith))
          ∙ ap sounding_after (take_all (length played) played (omega arith) ∙ e),
    )
