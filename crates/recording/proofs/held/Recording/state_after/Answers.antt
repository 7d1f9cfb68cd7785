use Rattle.std.proofs.Common.{map, take, ap, ◌∙◌}
use Rattle.game.specs.Plain.{seat_0, seat_1}
use Rattle.court_game.specs.Sounding.{SoundingCourt, sounding_start}
use Rattle.court_game.proofs.Tones.{court_is_court_game}
use Rattle.recording.proofs.held.Recording.state_after.Goals as goal

pub returns : goal.returns
returns c =
    λ right.
    let gs = take c.args.frame c.args.self.now.frames.now in
    let found = c.in_ok-game.ensures right in
    (found.0, ap (λ (t : SoundingCourt). t.court) found.1 ∙ court_is_court_game sounding_start (map seat_0 gs) (map seat_1 gs))
