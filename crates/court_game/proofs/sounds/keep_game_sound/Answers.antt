use Rattle.std.proofs.Common.{map, ◌++◌, sym, ap, ◌∙◌, arith}
use Rattle.game.specs.Plain.{seat_0, seat_1}
use Rattle.court_game.specs.Held.{sounding_court}
use Rattle.court_game.proofs.Tones.{one_frame, kept_more, kept_all, sounds_from}
use Rattle.court_game.proofs.sounds.keep_game_sound.Goals as goal

pub loop-i-preserved : goal.loop-i-preserved
loop-i-preserved c =
    let fs = c.args.frames.now in
    let i = c.loop-i.i in
    let next = one_frame (sounding_court c.loop-i.game) _ fs i (omega arith) c.play_frames-game.ensures in
    kept_more (sounding_court c.loop-i.game) (sounding_court c.play_frames-game.result) _ _ fs i (omega arith) next c.in_ok-keep_sound.ensures.kept
    ∙ c.loop-i.invariant

pub returns : goal.returns
returns c =
    let fs = c.args.frames.now in
    sym (kept_all (sounding_court c.loop-i.game) c.loop-i.samples.items fs c.loop-i.i (omega arith))
    ∙ c.loop-i.invariant
    ∙ ap (λ s. c.args.samples.now.items ++ sounds_from s (map seat_0 fs) (map seat_1 fs)) c.start-game.ensures
