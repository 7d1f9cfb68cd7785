use Rattle.std.proofs.Common.{map, ap, ◌∙◌}
use Rattle.game.specs.Plain.{plays, seat_0, seat_1}
use Rattle.court_game.specs.Sounding.{SoundingCourt, sounding_game, sounding_start}
use Rattle.court_game.proofs.Tones.{court_is_court_game}
use Rattle.court_game.proofs.plain.play_frames.Goals as goal

pub returns-clause-value : goal.returns-clause-value
returns-clause-value c =
    let xs = map seat_0 c.args.frames.now in
    let ys = map seat_1 c.args.frames.now in
    ap (λ (t : SoundingCourt). t.court) (c.play_frames.ensures ∙ ap (λ s. plays sounding_game s xs ys) c.start.ensures)
    ∙ court_is_court_game sounding_start xs ys
