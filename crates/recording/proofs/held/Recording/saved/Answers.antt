use Rattle.std.proofs.Common.{◌-◌, ◌*◌, ◌/◌, map, length, take, ◌∙◌, arith}
use Rattle.court_game.specs.Saved.{court_lawful}
use Rattle.court_game.specs.Sounding.{sounding_start}
use Rattle.court_game.proofs.Tones.{plays_in_game}
use Rattle.game.specs.Plain.{seat_0, seat_1}
use Rattle.recording.specs.Matches.{sounding_after}
use Rattle.recording.proofs.Marked.{saved_at}
use Rattle.recording.proofs.held.Recording.saved.Goals as goal

pub returns : goal.returns
returns c =
    λ right.
    let fs = c.args.self.now.frames.now in
    let states = c.args.self.now.states.now in
    let n = c.args.marks in
    let gs = take (600 * n) fs in
    let bytes = saved_at states fs n (length fs / 600) (64 * n - (64 * n - 64)) right (omega arith) c.requires (omega arith) in
    c.load_state.ensures.saved (sounding_after gs) (plays_in_game sounding_start court_lawful.begins (map seat_0 gs) (map seat_1 gs)) (c.in_ok-saved.ensures.lookup.0.2 ∙ bytes)
