-- The packet that is written: that it has room, whether there is one, and its bytes. Assumes nothing.
use Rattle.std.proofs.Common.{◌≡◌, ℕ, ◌+◌, ◌*◌, ◌≤◌, Bool, true, false, cond, ltb, leb, List, length, take, drop, IsOk, Result, Some, None, refl, ap, ◌∙◌, arith, length-append, length-take, le-ltb}
use Rattle.std.proofs.lemmas.Bool.Decides.{nat_tests}
use Rattle.std.proofs.lemmas.List.{take_at}
use Rattle.byte_numbers.specs.Little.{little}
use Rattle.court_game.specs.Saved.{court_saved}
use Rattle.game.specs.declared.seat.Seat.{Seat}
use Rattle.packet.specs.Wire.{Message, message_bytes, message_length, writing}
use Rattle.packet.specs.declared.fault.Unwritten.{Unwritten}
use Rattle.peer.specs.declared.refusal.Refusal.TheVariants.{Input}
use Rattle.peer.specs.Lent.{log_of}
use Rattle.peer.specs.Peers.{Log, Event, tick, arrival, goes_on, sends}
use Rattle.rollback.specs.declared.outcome.Outcome.{Outcome}
use Rattle.rollback.specs.declared.outcome.Outcome.TheVariants.{Taken, Lost, Refused}
use Rattle.rollback.specs.Rows.{Memory, StandsFor}
use Rattle.rollback.specs.Said.{said_tick}
use Rattle.session.specs.Events.{said, writes, sent, packet_over}
use Rattle.session.specs.Rows.{tells}

-- what a peer sends has room in as many bytes as a packet has at most
pub sends_fit : (r : Result ℕ Unwritten) (m : Message) (room : ℕ) (log : Log) → r ≡ writing m room → m ≡ sends log → 130 ≤ room → IsOk r
sends_fit r m room log is sent enough = grind (arith, nat_tests, length-take 120 (drop log.acked log.own))

-- ---- whether one is written: after a tick whose input is one

told_by : (fits goes : Bool) (a : ℕ) → writes (tick a) (cond fits (cond goes (Taken 1) Lost) (Refused Input)) ≡ fits
told_by true true a = refl
told_by true false a = refl
told_by false goes a = refl

pub writes_fits : (window inputs states : ℕ) (log : Log) (a : ℕ) → 2000000 ≤ inputs → (window + 1) * 64 ≤ states → writes (tick a) (said_tick (λ b. leb b 15) window inputs states log a) ≡ leb a 15
unfolding said_tick
writes_fits window inputs states log a h k =
    let i : ltb inputs 2000000 ≡ false = le-ltb _ _ h in
    let s : ltb states ((window + 1) * 64) ≡ false = le-ltb _ _ k in
    simp (i, s) (told_by (leb a 15) (goes_on window log) a)

pub wrote : (seat : Seat) (window : ℕ) (log : Log) (m : Memory) (o : Outcome) (e : Event) → StandsFor court_saved seat window log m → o ≡ said (λ b. leb b 15) m.peer.window (length m.inputs) (length m.states) (log_of m.peer m.inputs) e → writes e o ≡ tells e
wrote seat window log m o (tick a) s e =
    ap (writes (tick a)) e ∙ writes_fits m.peer.window _ _ (log_of m.peer m.inputs) a s.roomy.inputs_long (omega arith)
wrote seat window log m o (arrival xs) s e = refl

-- ---- by the length that is told

pub told_some : (b : Bool) (m : Message) (n : ℕ) → Some n ≡ sent b m → (b ≡ true) × (n ≡ message_length m)
told_some true m n e = let k : n ≡ message_length m = cc in (refl, k)
told_some false m n e = (cc, cc)

pub told_none : (b : Bool) (m : Message) → None ≡ sent b m → b ≡ false
told_none true m e = cc
told_none false m e = refl

-- ---- its bytes, as they lie in memory

message_long : (m : Message) → length (message_bytes m) ≡ message_length m
message_long m = omega (arith, length-append (little 4 m.ack) m.inputs)

pub sent_is : (n : ℕ) (out before : List ℕ) (m : Message) (b : Bool) → b ≡ true → n ≡ message_length m → out ≡ packet_over b m before → take n out ≡ message_bytes m
sent_is n out before m true t e f =
    ap (λ k. take k out) e
    ∙ ap (take (message_length m)) f
    ∙ take_at (message_bytes m) (drop (message_length m) before) (message_length m) (message_long m)
sent_is n out before m false t e f = cc
