-- Rows of events. Assumes nothing.
use Rattle.std.proofs.Common.{◌≡◌, ℕ, ◌+◌, ◌%◌, ◌≤◌, List, [], ◌∷◌, length, drop, sym, ap, ◌∙◌, subst, arith}
use Rattle.game.specs.Plain.{Game, plays}
use Rattle.game.specs.Saved.{SavedRules, Lawful}
use Rattle.game.specs.declared.seat.Seat.{Seat}
use Rattle.game.specs.declared.seat.Seat.TheVariants.{Left}
use Rattle.game.proofs.Plays.{from_saved}
use Rattle.peer.specs.declared.numbers.Peer.{Peer}
use Rattle.peer.specs.Lent.{Long, log_of, seated, after}
use Rattle.peer.specs.Peers.{Log, Event, event, run, new_log, predicted, shows}
use Rattle.peer.proofs.Logs.{own_long, other_long}
use Rattle.peer.proofs.Shows.{after_plays, shows_seated}
use Rattle.rollback.specs.Rows.{Memory, Goes, StandsFor, KeepsLog, SameShown, PlaysOn}
use Rattle.rollback.specs.Saved.{Roomy, Saved, Begun, Happened, Shown, slot}
use Rattle.rollback.proofs.Windows.{after_ok}

-- the beginning
pub stands_begun : {S : Type 0} (r : SavedRules S) (seat : Seat) (window : ℕ) (m : Memory) → Begun r seat window m.peer m.inputs m.states → StandsFor r seat window new_log m
stands_begun r seat window m b = record { seat_is = b.seat_is; window_is = b.window_is; roomy = b.roomy; log_is = b.log_is; kept = b.kept }

-- one event more
pub stands_more : {S : Type 0} (r : SavedRules S) (seat : Seat) (window : ℕ) (log : Log) (m n : Memory) (e : Event) → StandsFor r seat window log m → Happened r m.peer m.inputs m.states e n.peer n.inputs n.states → StandsFor r seat window (event r.fits window log e) n
stands_more r seat window log m n e s h =
    let room : Roomy m.peer.window m.inputs m.states = subst (λ w. Roomy w m.inputs m.states) (sym s.window_is) s.roomy in
    record {
      seat_is = h.seat_same ∙ s.seat_is;
      window_is = h.window_same ∙ s.window_is;
      roomy = record { inputs_long = omega (arith, s.roomy.inputs_long, h.inputs_same); states_long = omega (arith, s.roomy.states_long, h.states_same) };
      log_is = h.does room ∙ ap (λ w. event r.fits w (log_of m.peer m.inputs) e) s.window_is ∙ ap (λ l. event r.fits window l e) s.log_is;
      kept = h.keeps room s.kept;
    }

-- a row of events
pub stands_all : {S : Type 0} (r : SavedRules S) (seat : Seat) (window : ℕ) (log : Log) (m n : Memory) (es : List Event) → StandsFor r seat window log m → Goes r m es n → StandsFor r seat window (run r.fits window log es) n
unfolding Goes run
stands_all r seat window log m n [] s g = subst (StandsFor r seat window log) g s
stands_all r seat window log m n (e ∷ es) s (k, h, g) = stands_all r seat window (event r.fits window log e) k n es (stands_more r seat window log m k e s h) g

pub keeps_log : {S : Type 0} (r : SavedRules S) → KeepsLog r
keeps_log r seat window m n es b g = stands_all r seat window new_log m n es (stands_begun r seat window m b) g

-- what is shown of memory that stands for a log
pub stands_shown : {S : Type 0} (r : SavedRules S) (seat : Seat) (window : ℕ) (log : Log) (m : Memory) (s : S) → StandsFor r seat window log m → Shown r m.peer m.states s → s ≡ shows r.game seat log
stands_shown r seat window log m s st h =
    h m.inputs st.roomy.inputs_long st.kept
    ∙ ap (λ t. shows r.game t (log_of m.peer m.inputs)) st.seat_is
    ∙ ap (shows r.game seat) st.log_is

pub same_shown : {S : Type 0} (r : SavedRules S) → SameShown r
same_shown r seat window m n es s b g h = stands_shown r seat window (run r.fits window new_log es) n s (keeps_log r seat window m n es b g) h

-- playing on from the state after k frames
on_from : {S : Type 0} (g : Game S) (p : Peer) (inputs : List ℕ) (k : ℕ) → Long inputs → k ≤ p.own → plays g (after g inputs p.other k) (drop k (log_of p inputs).own) (drop k (predicted (log_of p inputs))) ≡ shows g Left (log_of p inputs)
unfolding shows
on_from {S = S} g p inputs k l h =
    let own : List ℕ = (log_of p inputs).own in
    let fill : List ℕ = predicted (log_of p inputs) in
    ap (λ s. plays g s (drop k own) (drop k fill)) (after_plays g p inputs k l h) ∙ from_saved S g g.start k own fill

pub plays_on : {S : Type 0} (r : SavedRules S) → Lawful r → PlaysOn r
unfolding Saved
plays_on r law seat window log m st k lo hi =
    let p = m.peer in
    let xs = m.inputs in
    let long = st.roomy.inputs_long in
    let a : length log.own ≡ p.own = ap (λ l. length l.own) (sym st.log_is) ∙ own_long p xs long in
    let b : length log.other ≡ p.other = ap (λ l. length l.other) (sym st.log_is) ∙ other_long p xs long in
    let game = seated seat r.game in (
      after game xs p.other k,
      after_ok r law seat xs p.other k,
      ap (λ w. slot m.states (k % (w + 1))) (sym st.window_is)
          ∙ st.kept k (omega arith) (omega arith)
          ∙ ap (λ t. r.coded (after (seated t r.game) xs p.other k)) st.seat_is,
      ap (λ l. plays game (after game xs p.other k) (drop k l.own) (drop k (predicted l))) (sym st.log_is)
          ∙ on_from game p xs k long (omega arith)
          ∙ shows_seated seat r.game (log_of p xs)
          ∙ ap (shows r.game seat) st.log_is,
    )
