-- A court as an engine holds it, as the definitions see it. Assumes nothing.
use Rattle.sound.specs.Sounding.{sounding}
use Rattle.court_game.specs.Sounding.{SoundingCourt}
use Rattle.court_game.specs.declared.sounding.CourtGame.{CourtGame}

abbrev pub sounding_court : CourtGame → SoundingCourt
sounding_court g = record { court = g.court.state; tone = sounding g.tone }
