-- What is heard of a whole game of the court. Assumes nothing: these are definitions, and a
-- statement that is proved in proofs/.
use Rattle.std.specs.Prelude.{◌≡◌, ℕ, List, [], ◌∷◌}
use Rattle.court.specs.declared.cue.Cue.{Cue}
use Rattle.court.specs.declared.state.State.{State}
use Rattle.court.specs.Cues.{cue_of}
use Rattle.court.specs.Frame.{start, advanced}
use Rattle.sound.specs.Sound.{bytes_of, sound_of}
use Rattle.sound.specs.Tones.{tone_after_all}
use Rattle.game.specs.Plain.{plays}
use Rattle.court_game.specs.Sounding.{SoundingCourt, sounding_game}

-- the cues of a game from a state on, by the inputs of both seats, as far as both go
unfoldable pub cues_of : State → List ℕ → List ℕ → List Cue
cues_of s [] bs = []
cues_of s (a ∷ xs) [] = []
cues_of s (a ∷ xs) (b ∷ bs) = cue_of s a b ∷ cues_of (advanced s a b) xs bs

-- the sound of a game from the start, in bytes: its frames one after the other
abbrev pub game_sound : List ℕ → List ℕ → List ℕ
game_sound xs ys = bytes_of (sound_of (cues_of start xs ys))

-- the tone of the sounding game is what the cues of the court's game make of the tone before
abbrev pub TonesAreOfCues : Type 0
TonesAreOfCues =
    (s : SoundingCourt) (xs ys : List ℕ) →
    (plays sounding_game s xs ys).tone ≡ tone_after_all s.tone (cues_of s.court xs ys)
