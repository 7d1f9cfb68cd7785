-- Rows of events, one more at a time. Assumes nothing.
use Rattle.std.proofs.Common.{◌≡◌, ℕ, ◌+◌, ◌*◌, ◌<◌, ◌≤◌, Bool, true, false, leb, le-ltb, lt-ltb, List, [], ◌∷◌, ◌++◌, length, Some, inl, inr, sym, ap, ◌∙◌, refl, subst}
use Rattle.std.proofs.lemmas.Bool.{cases_lt}
use Rattle.court_game.specs.Saved.{court_saved}
use Rattle.game.specs.declared.seat.Seat.{Seat}
use Rattle.court_game.specs.Games.{court_game}
use Rattle.court.specs.declared.state.State.{State}
use Rattle.network.specs.Promise.{Stays}
use Rattle.network.proofs.OnePeer.{stays_sure}
use Rattle.network.proofs.Rows.{run_append}
use Rattle.peer.specs.Lent.{log_of}
use Rattle.packet.specs.Wire.{message_length}
use Rattle.peer.specs.declared.refusal.Refusal.{Refusal}
use Rattle.peer.specs.declared.refusal.Refusal.TheVariants.{Inputs, States}
use Rattle.peer.specs.Peers.{Log, Event, tick, arrival, event, new_log, run, sends}
use Rattle.rollback.specs.Rows.{Memory, StandsFor}
use Rattle.rollback.specs.Said.{said_tick, said_arrival}
use Rattle.rollback.specs.Saved.{Begun, Happened}
use Rattle.rollback.specs.declared.outcome.Outcome.{Outcome}
use Rattle.rollback.specs.declared.outcome.Outcome.TheVariants.{Taken, Refused}
use Rattle.rollback.proofs.Rowed.{stands_begun, stands_more}
use Rattle.session.specs.Events.{said, packet_over}
use Rattle.session.specs.Rows.{After, WritesOwn, log_after}

pub run_push : (window : ℕ) (es : List Event) (e : Event) → log_after window (es ++ e ∷ []) ≡ event (λ b. leb b 15) window (log_after window es) e
unfolding run
run_push window es e = run_append (λ b. leb b 15) window new_log es (e ∷ [])

pub after_none : (seat : Seat) (window : ℕ) (m : Memory) → Begun court_saved seat window m.peer m.inputs m.states → After seat window [] m
unfolding run
after_none seat window m b = stands_begun court_saved seat window m b

pub after_more : (seat : Seat) (window : ℕ) (es : List Event) (e : Event) (m n : Memory) → Happened court_saved m.peer m.inputs m.states e n.peer n.inputs n.states → After seat window es m → After seat window (es ++ e ∷ []) n
after_more seat window es e m n h a =
    let P : Log → Type 0 = λ log. StandsFor court_saved seat window log n in
    subst P (sym (run_push window es e)) (stands_more court_saved seat window (log_after window es) m n e a h)

-- ---- what was confirmed stays so

-- memory that is too short is refused
said_short : (window inputs states : ℕ) (log : Log) (e : Event) → inputs < 2000000 → said (λ b. leb b 15) window inputs states log e ≡ Refused Inputs
unfolding said_tick said_arrival
said_short window inputs states log (tick a) h = simp (lt-ltb inputs 2000000 h) refl
said_short window inputs states log (arrival xs) h = simp (lt-ltb inputs 2000000 h) refl

said_few : (window inputs states : ℕ) (log : Log) (e : Event) → 2000000 ≤ inputs → states < (window + 1) * 64 → said (λ b. leb b 15) window inputs states log e ≡ Refused States
unfolding said_tick said_arrival
said_few window inputs states log (tick a) l h = simp (le-ltb inputs 2000000 l, lt-ltb states ((window + 1) * 64) h) refl
said_few window inputs states log (arrival xs) l h = simp (le-ltb inputs 2000000 l, lt-ltb states ((window + 1) * 64) h) refl

pub stays_on : (seat : Seat) (e : Event) (m n : Memory) (o : Outcome) → Happened court_saved m.peer m.inputs m.states e n.peer n.inputs n.states → o ≡ said (λ b. leb b 15) m.peer.window (length m.inputs) (length m.states) (log_of m.peer m.inputs) e → (((k : ℕ) → o ≡ Taken k → ⊥) → (n.peer ≡ m.peer) × (n.inputs ≡ m.inputs) × (n.states ≡ m.states)) → Stays court_game seat (log_of m.peer m.inputs) (log_of n.peer n.inputs)
unfolding run
stays_on seat e m n o h is idle =
    let p = m.peer in
    let log : Log = log_of p m.inputs in
    let P : Log → Type 0 = λ to. Stays court_game seat log to in
    let refused : (f : Refusal) → o ≡ Refused f → P (log_of n.peer n.inputs) =
    λ f r.
    let same = idle (λ k t. let no : Taken k ≡ Refused f = sym t ∙ r in cc) in
    let logs : log ≡ log_of n.peer n.inputs = cc (same.0, same.1) in
    subst P logs (stays_sure State court_game seat (λ b. leb b 15) p.window log []) in
    elim (cases_lt (length m.inputs) 2000000) [
      | inl short ↦ refused Inputs (is ∙ said_short p.window _ _ log e short)
      | inr long ↦
          elim (cases_lt (length m.states) ((p.window + 1) * 64)) [
            | inl few ↦ refused States (is ∙ said_few p.window _ _ log e long few)
            | inr room ↦ subst P (sym (h.does (record { inputs_long = long; states_long = room }))) (stays_sure State court_game seat (λ b. leb b 15) p.window log (e ∷ []))
          ]
    ]

-- the packet that is written is that of the whole row
pub writes_own : (seat : Seat) (window : ℕ) (es : List Event) (e : Event) (m n : Memory) (b : Bool) (k : ℕ) (out out' : List ℕ) → Happened court_saved m.peer m.inputs m.states e n.peer n.inputs n.states → b ≡ true → k ≡ message_length (sends (log_of n.peer n.inputs)) → out' ≡ packet_over true (sends (log_of n.peer n.inputs)) out → After seat window es m → WritesOwn window (es ++ e ∷ []) b out (Some k) out'
writes_own seat window es e m n true k out out' h t l p a =
    let s : log_of n.peer n.inputs ≡ log_after window (es ++ e ∷ []) = (after_more seat window es e m n h a).log_is in (ap Some (l ∙ ap message_length (ap sends s)), p ∙ ap (λ log. packet_over true (sends log) out) s)
writes_own seat window es e m n false k out out' h t l p a = cc
