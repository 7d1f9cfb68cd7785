-- The events of a file one after the other. Assumes nothing: these are definitions.
use Rattle.std.specs.Prelude.{◌≡◌, ℕ, ◌<◌, ◌≤◌, List, length, drop, Ok, Err, Result, Some, None, Option}
use Rattle.session.specs.declared.event.Happening.{Happening}
use Rattle.session.specs.declared.file.Events.{Events}
use Rattle.session.specs.declared.refused.Refused.{Refused}
use Rattle.session.specs.declared.refused.Refused.TheVariants.{Event}
use Rattle.session.specs.Events.{event_of}
use Rattle.session.specs.Files.{StandsAt, NoEvent}

-- the events of a file from a place on
pub record StandsIn (file : List ℕ) (at : ℕ) (events : Events) : Type 0 where
  pub file_is : events.file.now ≡ file
  pub at_is : events.at ≡ at

-- what comes next: the event that stands there, and then those behind it; or that none stands there, and then nothing more; or the end
abbrev pub GivesEvent : Events → Option (Result Happening Refused) → Events → Type 0
GivesEvent s None t = (length s.file.now ≤ s.at) × (t ≡ s)
GivesEvent s (Some (Ok h)) t = (t.file ≡ s.file) × StandsAt s.file.now s.at (event_of h) t.at
GivesEvent s (Some (Err f)) t =
    (t.file ≡ s.file) × (s.at < length s.file.now) × (f ≡ Event s.at) × NoEvent (drop s.at s.file.now) × (length s.file.now ≤ t.at)
