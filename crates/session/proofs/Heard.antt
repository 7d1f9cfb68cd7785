-- All sounds that a peer hands out over a row of events. Assumes nothing.
use Rattle.std.proofs.Common.{◌≡◌, ℕ, ◌+◌, ◌*◌, ◌<◌, ◌≤◌, Bool, true, false, ◌&&◌, cond, ltb, leb, List, [], ◌∷◌, ◌++◌, length, Ok, Err, Result, inl, inr, sym, refl, ap, ◌∙◌, arith, append-nil, length-append, le-ltb, lt-ltb}
use Rattle.std.proofs.lemmas.Bool.{cases_lt}
use Rattle.std.proofs.lemmas.List.{append_assoc, length_push}
use Rattle.court_game.specs.Saved.{court_saved}
use Rattle.court_game.specs.Sounding.{sounding_game}
use Rattle.game.specs.declared.seat.Seat.{Seat}
use Rattle.network.proofs.Rows.{run_append}
use Rattle.peer.specs.declared.refusal.Refusal.TheVariants.{Input}
use Rattle.peer.specs.Lent.{log_of}
use Rattle.packet.specs.Wire.{Message, reading}
use Rattle.packet.specs.declared.fault.Fault.{Fault}
use Rattle.peer.specs.Peers.{Log, Event, tick, arrival, event, goes_on, heard, new_log, run, shows}
use Rattle.rollback.specs.declared.outcome.Outcome.{Outcome}
use Rattle.rollback.specs.declared.outcome.Outcome.TheVariants.{Taken, Lost, Refused}
use Rattle.rollback.specs.Rows.{Memory, StandsFor}
use Rattle.rollback.specs.Said.{said_tick}
use Rattle.session.specs.Events.{said, hands}
use Rattle.session.specs.Rows.{log_after, plays_next, sounds_handed, HandedOnce}
use Rattle.session.proofs.Rowed.{run_push}
use Rattle.sound.specs.Sound.{sound_bytes}
use Rattle.sound.specs.Tones.{Sounding}
use Rattle.sound.proofs.Writes.{whole}

-- ---- whether one is handed out: after a tick that plays a frame

hands_by : (fits goes : Bool) (a : ℕ) → hands (tick a) (cond fits (cond goes (Taken 1) Lost) (Refused Input)) ≡ (fits && goes)
hands_by true true a = refl
hands_by true false a = refl
hands_by false goes a = refl

hands_played : (window inputs states : ℕ) (log : Log) (a : ℕ) → 2000000 ≤ inputs → (window + 1) * 64 ≤ states → hands (tick a) (said_tick (λ b. leb b 15) window inputs states log a) ≡ (leb a 15 && goes_on window log)
unfolding said_tick
hands_played window inputs states log a h k =
    let i : ltb inputs 2000000 ≡ false = le-ltb _ _ h in
    let s : ltb states ((window + 1) * 64) ≡ false = le-ltb _ _ k in
    simp (i, s) (hands_by (leb a 15) (goes_on window log) a)

pub handed : (seat : Seat) (window : ℕ) (log : Log) (m : Memory) (o : Outcome) (e : Event) → StandsFor court_saved seat window log m → o ≡ said (λ b. leb b 15) m.peer.window (length m.inputs) (length m.states) (log_of m.peer m.inputs) e → hands e o ≡ plays_next window log e
handed seat window log m o (tick a) s e =
    ap (hands (tick a)) e
    ∙ hands_played m.peer.window _ _ (log_of m.peer m.inputs) a s.roomy.inputs_long (omega (arith, s.roomy.states_long, s.window_is))
    ∙ ap (λ w. leb a 15 && goes_on w (log_of m.peer m.inputs)) s.window_is
    ∙ ap (λ l. leb a 15 && goes_on window l) s.log_is
handed seat window log m o (arrival xs) s e = refl

-- and then the lent states are long enough
said_few : (window inputs states : ℕ) (log : Log) (a : ℕ) → states < (window + 1) * 64 → hands (tick a) (said_tick (λ b. leb b 15) window inputs states log a) ≡ false
unfolding said_tick
said_few window inputs states log a h =
    elim (cases_lt inputs 2000000) [
      | inl short ↦ simp (lt-ltb inputs 2000000 short) refl
      | inr long ↦ simp (le-ltb inputs 2000000 long, lt-ltb states ((window + 1) * 64) h) refl
    ]

pub handed_long : (window inputs states : ℕ) (log : Log) (e : Event) (o : Outcome) → o ≡ said (λ b. leb b 15) window inputs states log e → hands e o ≡ true → (window + 1) * 64 ≤ states
handed_long window inputs states log (tick a) o is h =
    elim (cases_lt states ((window + 1) * 64)) [
      | inl few ↦ let no : true ≡ false = sym h ∙ ap (hands (tick a)) is ∙ said_few window inputs states log a few in absurd (cc)
      | inr long ↦ long
    ]
handed_long window inputs states log (arrival xs) o is h = absurd (cc)

-- ---- rows of events one behind the other

-- the sound of one event
abbrev as_heard : Seat → Bool → Log → List ℕ
as_heard seat b log = cond b (sound_bytes (shows sounding_game seat log).tone) []

heard_all : (seat : Seat) (window : ℕ) (log : Log) (es fs : List Event) → sounds_handed seat window log (es ++ fs) ≡ sounds_handed seat window log es ++ sounds_handed seat window (run (λ b. leb b 15) window log es) fs
unfolding sounds_handed run
heard_all seat window log [] fs = refl
heard_all seat window log (d ∷ es) fs =
    let next : Log = event (λ b. leb b 15) window log d in
    ap (λ zs. as_heard seat (plays_next window log d) next ++ zs) (heard_all seat window next es fs)
    ∙ sym (append_assoc (as_heard seat (plays_next window log d) next) _ _)

heard_one : (seat : Seat) (window : ℕ) (es : List Event) (e : Event) (b : Bool) → plays_next window (log_after window es) e ≡ b → sounds_handed seat window (log_after window es) (e ∷ []) ≡ as_heard seat b (log_after window (es ++ e ∷ []))
unfolding sounds_handed
heard_one seat window es e b t =
    append-nil _
    ∙ ap (λ c. as_heard seat c (event (λ b. leb b 15) window (log_after window es) e)) t
    ∙ ap (as_heard seat b) (sym (run_push window es e))

-- the sound of a tick that plays a frame
pub one_heard : (seat : Seat) (window : ℕ) (es : List Event) (e : Event) → plays_next window (log_after window es) e ≡ true → sounds_handed seat window (log_after window es) (e ∷ []) ≡ sound_bytes (shows sounding_game seat (log_after window (es ++ e ∷ []))).tone
one_heard seat window es e t = heard_one seat window es e true t

-- or none
pub none_heard : (seat : Seat) (window : ℕ) (es : List Event) (e : Event) → plays_next window (log_after window es) e ≡ false → sounds_handed seat window (log_after window es) (e ∷ []) ≡ []
none_heard seat window es e t = heard_one seat window es e false t

-- one event more, and the sound that was handed out for it, if one was
pub heard_more : (seat : Seat) (window : ℕ) (before es : List Event) (e : Event) (now after : List ℕ) → now ≡ sounds_handed seat window (log_after window before) es → after ≡ now ++ sounds_handed seat window (log_after window (before ++ es)) (e ∷ []) → after ≡ sounds_handed seat window (log_after window before) (es ++ e ∷ [])
heard_more seat window before es e now after l more =
    more
    ∙ ap (λ zs. zs ++ sounds_handed seat window (log_after window (before ++ es)) (e ∷ [])) l
    ∙ ap (λ log. sounds_handed seat window (log_after window before) es ++ sounds_handed seat window log (e ∷ [])) (run_append (λ b. leb b 15) window new_log before es)
    ∙ sym (heard_all seat window (log_after window before) es (e ∷ []))

-- ---- each frame once

played_by : (played : Bool) (t : Sounding) (log : Log) (a : ℕ) → length (cond played (sound_bytes t) []) + 1600 * length log.own ≡ 1600 * length (cond played (record { own = log.own ++ a ∷ []; other = log.other; acked = log.acked }) log).own
played_by true t log a =
    let l : length (sound_bytes t) ≡ 1600 = (whole t).1 in
    let m = length_push log.own a in
    omega arith
played_by false t log a = omega arith

came_by : (log : Log) (r : Result Message Fault) → length (heard log r).own ≡ length log.own
came_by log (Ok m) = refl
came_by log (Err f) = refl

once_each : (seat : Seat) (window : ℕ) (log : Log) (e : Event) → length (as_heard seat (plays_next window log e) (event (λ b. leb b 15) window log e)) + 1600 * length log.own ≡ 1600 * length (event (λ b. leb b 15) window log e).own
unfolding event
once_each seat window log (tick a) = played_by (leb a 15 && goes_on window log) _ log a
once_each seat window log (arrival xs) = let s = came_by log (reading (length log.own) xs) in omega arith

pub handed_once : HandedOnce
unfolding sounds_handed run
handed_once seat window log [] = omega arith
handed_once seat window log (e ∷ es) =
    let next : Log = event (λ b. leb b 15) window log e in
    let first : List ℕ = as_heard seat (plays_next window log e) next in
    let l = length-append first (sounds_handed seat window next es) in
    let one = once_each seat window log e in
    let rest = handed_once seat window next es in
    omega arith
