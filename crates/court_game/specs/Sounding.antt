-- The court with its tone, as a game. Assumes nothing: these are definitions, and a statement that
-- is proved in proofs/.
use Rattle.std.specs.Prelude.{◌≡◌, ℕ, List}
use Rattle.court.specs.declared.state.State.{State}
use Rattle.court.specs.Bounds.{InCourt}
use Rattle.court.specs.Cues.{cue_of}
use Rattle.court.specs.Frame.{start, advanced}
use Rattle.sound.specs.Tones.{Sounding, IsInRange, silence, tone_after}
use Rattle.game.specs.Plain.{Game, Rules, plays}
use Rattle.court_game.specs.Games.{court_game, is_input}

-- a state of the court, and what sounds in the frame that led to it
pub record SoundingCourt : Type 0 where
  pub court : State
  pub tone : Sounding

-- the court before the first frame
abbrev pub sounding_start : SoundingCourt
sounding_start = record { court = start; tone = silence }

-- the court goes on as without its tone, and the tone by the frame's cue, also once the game is
-- over
abbrev pub sounding_frame : SoundingCourt → ℕ → ℕ → SoundingCourt
sounding_frame s a b =
    record { court = advanced s.court a b; tone = tone_after s.tone (cue_of s.court a b) }

abbrev pub sounding_game : Game SoundingCourt
sounding_game = record { start = sounding_start; frame = sounding_frame }

abbrev pub sounding_rules : Rules SoundingCourt
sounding_rules = record { game = sounding_game; fits = is_input }

-- what a game comes to: a state in the court, and a tone that is not over
pub record InGame (s : SoundingCourt) : Type 0 where
  pub court_in : InCourt s.court
  pub tone_in : IsInRange s.tone

-- the court knows nothing of its tone: the court of the sounding game is the game of the court,
-- whatever the inputs
abbrev pub CourtIsCourtGame : Type 0
CourtIsCourtGame =
    (s : SoundingCourt) (xs ys : List ℕ) →
    (plays sounding_game s xs ys).court ≡ plays court_game s.court xs ys
