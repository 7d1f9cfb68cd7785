-- Where a peer stands, by its numbers. Assumes nothing.
use Rattle.std.proofs.Common.{◌≡◌, ℕ, min, length, sym, ap, ◌∙◌}
use Rattle.court.specs.declared.state.Score.{Score}
use Rattle.court.specs.declared.state.State.{State}
use Rattle.court_game.specs.Saved.{court_saved}
use Rattle.court_game.specs.Sounding.{SoundingCourt}
use Rattle.session.proofs.Courts.{stands_court}
use Rattle.game.specs.declared.seat.Seat.{Seat}
use Rattle.peer.specs.Peers.{Log}
use Rattle.peer.proofs.Logs.{own_long, other_long}
use Rattle.rollback.specs.Rows.{Memory, StandsFor}
use Rattle.rollback.specs.Saved.{Shown}
use Rattle.session.specs.declared.status.Status.{Status}
use Rattle.session.specs.Standing.{status_of}

same_status : (f f' k k' : ℕ) (s s' : Score) → f ≡ f' → k ≡ k' → s ≡ s' → ◌≡◌ {A = Status} (record { frames = f; confirmed = k; score = s }) (record { frames = f'; confirmed = k'; score = s' })
same_status f f' k k' s s' d e g = cc

pub status_stands : (seat : Seat) (window : ℕ) (log : Log) (m : Memory) (s : SoundingCourt) (k : ℕ) → StandsFor court_saved seat window log m → Shown court_saved m.peer m.states s → k ≡ min m.peer.own m.peer.other → record { frames = m.peer.own; confirmed = k; score = s.court.score } ≡ status_of seat log
status_stands seat window log m s k a shown sure =
    let p = m.peer in
    let own : length log.own ≡ p.own = ap (λ l. length l.own) (sym a.log_is) ∙ own_long p m.inputs a.roomy.inputs_long in
    let other : length log.other ≡ p.other = ap (λ l. length l.other) (sym a.log_is) ∙ other_long p m.inputs a.roomy.inputs_long in
    same_status _ _ _ _ _ _ (sym own) (sure ∙ sym (ap (λ n. min n (length log.other)) own ∙ ap (min p.own) other)) (ap (λ (t : State). t.score) (stands_court seat window log m s a shown))
