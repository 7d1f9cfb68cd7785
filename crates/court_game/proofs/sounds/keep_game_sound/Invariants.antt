use Rattle.std.proofs.Common.{◌≡◌, ◌++◌}
use Rattle.court_game.specs.Held.{sounding_court}
use Rattle.court_game.proofs.Tones.{sounds_behind}
use Rattle.court_game.proofs.sounds.keep_game_sound.Given as goal

abbrev pub invariant-loop-i : goal.invariant-loop-i
invariant-loop-i l =
    l.samples.items ++ sounds_behind (sounding_court l.game) l.frames l.i
    ≡ l.initial.samples.items ++ sounds_behind (sounding_court l.initial.game) l.frames 0
