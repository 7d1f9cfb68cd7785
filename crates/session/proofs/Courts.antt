-- What is shown of the court with its tone is, without the tone, what is shown of the court. Assumes nothing.
use Rattle.std.proofs.Common.{◌≡◌, ℕ, ap, ◌∙◌}
use Rattle.court_game.specs.Games.{court_game}
use Rattle.court_game.specs.Saved.{court_saved}
use Rattle.court_game.specs.Sounding.{SoundingCourt, sounding_game, sounding_start}
use Rattle.court_game.proofs.Tones.{court_is_court_game}
use Rattle.game.specs.declared.seat.Seat.{Seat}
use Rattle.game.specs.declared.seat.Seat.TheVariants.{Left, Right}
use Rattle.peer.specs.Peers.{Log, predicted, shows}
use Rattle.rollback.specs.Rows.{Memory, StandsFor}
use Rattle.rollback.specs.Saved.{Shown}
use Rattle.rollback.proofs.Rowed.{stands_shown}

pub shows_court : (seat : Seat) (log : Log) → (shows sounding_game seat log).court ≡ shows court_game seat log
unfolding shows
shows_court Left log = court_is_court_game sounding_start log.own (predicted log)
shows_court Right log = court_is_court_game sounding_start (predicted log) log.own

pub stands_court : (seat : Seat) (window : ℕ) (log : Log) (m : Memory) (s : SoundingCourt) → StandsFor court_saved seat window log m → Shown court_saved m.peer m.states s → s.court ≡ shows court_game seat log
stands_court seat window log m s a shown =
    ap (λ (t : SoundingCourt). t.court) (stands_shown court_saved seat window log m s a shown) ∙ shows_court seat log
