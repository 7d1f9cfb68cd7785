-- The court with its tone as a game whose states are saved, and that it is one as the engine asks.
-- Assumes nothing.
use Rattle.std.specs.Prelude.{refl}
use Rattle.std.proofs.lemmas.Bool.{leb-true}
use Rattle.court.specs.Cues.{cue_of}
use Rattle.court.proofs.Stays.{start_in, advanced_in}
use Rattle.sound.proofs.InRange.{silence_in, tone_after_in}
use Rattle.game.specs.Saved.{SavedRules, Lawful}
use Rattle.court_game.specs.Games.{is_input}
use Rattle.court_game.specs.Sounding.{SoundingCourt, InGame, sounding_game}
use Rattle.court_game.specs.Snapshots.{state_bytes}

-- a state has 64 bytes, and a game comes to states in the court, with tones that are not over
abbrev pub court_saved : SavedRules SoundingCourt
court_saved =
    record { game = sounding_game; fits = is_input; coded = state_bytes; ok = InGame }

pub court_lawful : Lawful court_saved
court_lawful =
    record {
      begins = record { court_in = start_in; tone_in = silence_in };
      goes_on = λ s a b h.
          record {
            court_in = advanced_in s.court a b h.court_in;
            tone_in = tone_after_in s.tone (cue_of s.court a b);
          };
      long = λ s. refl;
      narrow = λ a h. leb-true a 15 h;
    }
