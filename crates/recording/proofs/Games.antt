-- The game that a peer's recording holds. Assumes nothing.
use Rattle.std.proofs.Common.{◌≡◌, ℕ, zero, suc, ◌-◌, ◌<◌, ◌≤◌, true, false, ◌&&◌, ltb, leb, le-ltb, List, [], ◌∷◌, ◌++◌, map, length, get_or, take, drop, Ok, Err, Result, sym, refl, ap, ◌∙◌, subst, arith}
use Rattle.std.specs.List.{AllByRecursion}
use Rattle.std.proofs.ByRecursion.{All-append, All-push, All-drop}
use Rattle.std.proofs.lemmas.List.{take_at}
use Rattle.std.proofs.lemmas.Bool.{cond_both, and_parts, leb-true}
use Rattle.std.proofs.lemmas.Bool.Decides.{nat_tests}
use Rattle.court.specs.declared.state.State.{State}
use Rattle.court.specs.Frame.{start}
use Rattle.court_game.specs.Games.{court_game, is_input}
use Rattle.game.specs.Plain.{plays, seat_0, seat_1}
use Rattle.game.specs.declared.seat.Seat.{Seat}
use Rattle.game.specs.declared.seat.Seat.TheVariants.{Left, Right}
use Rattle.packet.specs.declared.fault.Fault.{Fault}
use Rattle.packet.specs.Inputs.{inputs_fit, first_bad}
use Rattle.packet.specs.Wire.{Message, inputs_in, start_checked, rest_checked, reading as packet_reading}
use Rattle.packet.proofs.Checks.{fit_from_bad}
use Rattle.peer.specs.Peers.{Log, Event, tick, arrival, new_log, goes_on, joined, heard, event, run, confirmed_at}
use Rattle.peer.specs.declared.numbers.Peer.{Peer}
use Rattle.peer.specs.Lent.{Long, log_of, with_own}
use Rattle.recording.specs.Games.{HoldsGame}
use Rattle.recording.specs.Matches.{Match, frame_byte, frame_bytes, match_of, after_frames, match_bytes, match_length}
use Rattle.recording.specs.Reading.{reading, Proper}
use Rattle.recording.specs.Writing.{written_over}
use Rattle.recording.proofs.Inverse.{written_long, written_read}
use Rattle.recording.proofs.Whole.{frames_by, frames_long}

-- ---- inputs have four bits, whatever events came

abbrev Inputs : List ℕ → Type 0
Inputs xs = AllByRecursion (λ a. a ≤ 15) xs

record FourBits (log : Log) : Type 0 where
  pub own : Inputs log.own
  pub other : Inputs log.other

all_inputs : (xs : List ℕ) → inputs_fit xs ≡ true → Inputs xs
all_inputs [] h = tt
all_inputs (x ∷ xs) h =
    let p = and_parts (leb x 15) (inputs_fit xs) h in
    (leb-true x 15 p.0, all_inputs xs p.1)

-- those of a packet that is taken
read_inputs : (own : ℕ) (xs : List ℕ) (m : Message) → packet_reading own xs ≡ Ok m → Inputs m.inputs
unfolding packet_reading start_checked rest_checked
read_inputs own xs m e =
    let none : length (inputs_in xs) ≤ first_bad (inputs_in xs) = grind (arith, nat_tests) in
    let is : inputs_in xs ≡ m.inputs = grind (arith, nat_tests) in
    subst Inputs is (all_inputs (inputs_in xs) (fit_from_bad (inputs_in xs) none))

joined_inputs : (xs : List ℕ) (m : Message) → Inputs xs → Inputs m.inputs → Inputs (joined xs m)
unfolding joined
joined_inputs xs m h k =
    let n : ℕ = length xs - m.first in
    cond_both (ltb (length xs) m.first) xs (xs ++ drop n m.inputs) Inputs (λ _. h)
    (λ _. All-append (λ a. a ≤ 15) xs (drop n m.inputs) h (All-drop (λ a. a ≤ 15) n m.inputs k))

bits_event : (window : ℕ) (log : Log) (e : Event) → FourBits log → FourBits (event is_input window log e)
unfolding event
bits_event window log (tick a) h =
    cond_both (leb a 15 && goes_on window log) (with_own log a) log FourBits
    (λ e. record { own = All-push (λ b. b ≤ 15) log.own a h.own (leb-true a 15 (and_parts (leb a 15) (goes_on window log) e).0); other = h.other })
    (λ _. h)
bits_event window log (arrival xs) h = by (packet_reading (length log.own) xs) refl
  where
    by : (r : Result Message Fault) → packet_reading (length log.own) xs ≡ r → FourBits (heard log r)
    by (Ok m) e = record { own = h.own; other = joined_inputs log.other m h.other (read_inputs (length log.own) xs m e) }
    by (Err f) e = h

bits_run : (window : ℕ) (log : Log) (es : List Event) → FourBits log → FourBits (run is_input window log es)
unfolding run
bits_run window log [] h = h
bits_run window log (e ∷ es) h = bits_run window (event is_input window log e) es (bits_event window log e h)

-- ---- so the frames give back the inputs

inputs_back : (a b : ℕ) → a ≤ 15 → b ≤ 15 → (seat_0 (frame_byte a b) ≡ a) × (seat_1 (frame_byte a b) ≡ b)
inputs_back a b h k = (omega arith, omega arith)

plays_back : (s : State) (xs ys : List ℕ) (k : ℕ) → Inputs xs → Inputs ys → plays court_game s (map seat_0 (take k (frame_bytes xs ys))) (map seat_1 (take k (frame_bytes xs ys))) ≡ plays court_game s (take k xs) (take k ys)
unfolding plays frame_bytes
plays_back s xs ys zero h l = refl
plays_back s [] ys (suc k) h l = refl
plays_back s (x ∷ xs) [] (suc k) h l = refl
plays_back s (x ∷ xs) (y ∷ ys) (suc k) h l =
    let is = inputs_back x y h.0 l.0 in
    let fs : List ℕ = take k (frame_bytes xs ys) in
    ap (λ a. plays court_game (court_game.frame s a (seat_1 (frame_byte x y))) (map seat_0 fs) (map seat_1 fs)) is.0
    ∙ ap (λ b. plays court_game (court_game.frame s x b) (map seat_0 fs) (map seat_1 fs)) is.1
    ∙ plays_back (court_game.frame s x y) xs ys k h.1 l.1

-- in the seats' order
games : (seat : Seat) (window : ℕ) (log : Log) (k : ℕ) → FourBits log → after_frames (take k (match_of seat window log).frames) ≡ confirmed_at court_game seat log k
unfolding confirmed_at
games Left window log k h = plays_back start log.own log.other k h.own h.other
games Right window log k h = plays_back start log.other log.own k h.other h.own

-- ---- what the bytes are read as

few_bytes : (xs ys : List ℕ) (i : ℕ) → get_or (frame_bytes xs ys) i 0 < 256
unfolding frame_bytes
few_bytes [] ys i = omega arith
few_bytes (x ∷ xs) [] i = omega arith
few_bytes (x ∷ xs) (y ∷ ys) zero = omega arith
few_bytes (x ∷ xs) (y ∷ ys) (suc i) = few_bytes xs ys i

bytes_by : (seat : Seat) (window : ℕ) (log : Log) (i : ℕ) → get_or (match_of seat window log).frames i 0 < 256
bytes_by Left window log i = few_bytes log.own log.other i
bytes_by Right window log i = few_bytes log.other log.own i

-- a peer's match has a recording
proper : (p : Peer) (inputs : List ℕ) → Long inputs → Proper (match_of p.seat p.window (log_of p inputs))
proper p inputs l =
    let many = frames_long p inputs l in
    let few = p.few in
    record { near = p.near; few = omega arith; bytes = bytes_by p.seat p.window (log_of p inputs) }

-- what the writer leaves holds the game
pub holds_game : (p : Peer) (inputs out new : List ℕ) (n : ℕ) → Long inputs → n ≤ length out → (let m : Match = match_of p.seat p.window (log_of p inputs) in n ≡ match_length (length m.frames) → new ≡ written_over (length inputs) m out → HoldsGame p.seat p.window (log_of p inputs) (take n new))
holds_game p inputs out new n l room e f =
    let log : Log = log_of p inputs in
    let m : Match = match_of p.seat p.window log in
    let a : ltb (length inputs) 2000000 ≡ false = le-ltb _ _ l in
    let b : ltb (length out) (match_length (length m.frames)) ≡ false = le-ltb _ _ (omega arith) in
    let whole : new ≡ match_bytes m ++ drop n out = f ∙ simp (a, b, e) in
    let long : length (match_bytes m) ≡ n = written_long m ∙ (omega arith) in
    let bytes : take n new ≡ match_bytes m = ap (take n) whole ∙ take_at (match_bytes m) (drop n out) n long in
    record {
      read = ap reading bytes ∙ written_read m (proper p inputs l);
      many = frames_by p.seat p.window log;
      game = λ es is k. games p.seat p.window log k (subst FourBits (sym is) (bits_run p.window new_log es (record { own = tt; other = tt })));
    }
