-- Packets are read as they were written, and what is said of those that are read. Assumes nothing.
use Rattle.std.proofs.Common.{◌≡◌, ℕ, zero, suc, ◌-◌, ◌^◌, ◌<◌, ◌≤◌, cond, not, false, eqb, ltb, List, [], ◌∷◌, ◌++◌, length, get_or, take, drop, Ok, Err, Result, sym, refl, ap, ◌∙◌, subst, inl, inr, arith}
use Rattle.std.specs.Prelude.{◌≢◌}
use Rattle.std.proofs.lemmas.Bool.{cases_lt, cond_both, cond-true, cond-false, and_right, lt-ltb, le-ltb, ne_eqb}
use Rattle.std.proofs.lemmas.Bool.Decides.{nat_tests}
use Rattle.packet.specs.Wire.{Message, Proper, message_bytes, ack_in, start_checked, rest_checked, reading}
use Rattle.packet.specs.declared.fault.Fault.{Fault}
use Rattle.packet.proofs.Readings.{written_read, read_written}
use Rattle.seats.specs.Packets.{Packet, ReadError, PacketRead, ReadWritten, IsProper, packet_bytes, ack_limit, packet_of, packet_from_seat, names_no_seat, packet_in}

-- ---- bytes, by the number of seats

pub bytes_many : (seats : ℕ) (p : Packet) → 2 < seats → packet_bytes seats p ≡ 72 ∷ (p.seat ∷ drop 1 (message_bytes p.message))
unfolding packet_bytes
bytes_many seats p h = cond-true (ltb 2 seats) _ _ (lt-ltb 2 seats h)

bytes_two : (seats : ℕ) (p : Packet) → seats ≤ 2 → packet_bytes seats p ≡ message_bytes p.message
unfolding packet_bytes
bytes_two seats p h = cond-false (ltb 2 seats) _ _ (le-ltb 2 seats h)

in_many : (seats at own : ℕ) (xs : List ℕ) → 2 < seats → packet_in seats at own xs ≡ cond (names_no_seat seats xs) (Err ReadError.no_seat) (packet_from_seat at own (get_or xs 1 0) (take 1 xs ++ drop 2 xs))
unfolding packet_in
in_many seats at own xs h = cond-true (ltb 2 seats) _ _ (lt-ltb 2 seats h)

in_two : (seats at own : ℕ) (xs : List ℕ) → seats ≤ 2 → packet_in seats at own xs ≡ packet_from_seat at own (1 - at) xs
unfolding packet_in
in_two seats at own xs h = cond-false (ltb 2 seats) _ _ (le-ltb 2 seats h)

-- ---- what is written is read

-- what is taken acknowledges what its bytes say, no more than the limit, and has more than one byte
pub record Read (limit : ℕ) (xs : List ℕ) (m : Message) : Type 0 where
  pub ack : ack_in xs ≡ m.ack
  pub known : m.ack ≤ limit
  pub long : 1 < length xs

message_read : (limit : ℕ) (xs : List ℕ) (m : Message) → reading limit xs ≡ Ok m → Read limit xs m
unfolding reading start_checked rest_checked
message_read limit xs m e = record { ack = grind (arith, nat_tests); known = grind (arith, nat_tests); long = grind (arith, nat_tests) }

from_seat : (at own seat : ℕ) (m : Message) → own < 2 ^ 32 → m.ack < 2 ^ 32 → Proper (ack_limit at own seat m.ack) m → packet_from_seat at own seat (message_bytes m) ≡ Ok (record { seat = seat; message = m })
from_seat at own seat m few small proper =
    let limit : ack_limit at own seat m.ack < 2 ^ 32 = cond_both (eqb seat at) m.ack own (λ n. n < 2 ^ 32) (λ _. small) (λ _. few) in
    let read : reading (ack_limit at own seat m.ack) (message_bytes m) ≡ Ok m = written_read (ack_limit at own seat m.ack) m limit proper in
    ap (λ n. packet_of seat (reading (ack_limit at own seat n) (message_bytes m))) (message_read _ (message_bytes m) m read).ack ∙ ap (packet_of seat) read

pub packet_read : PacketRead
packet_read seats at own p few small here h =
    let read = from_seat at own p.seat p.message few small h.proper in
    elim (cases_lt 2 seats) [
      | inl many ↦
          let xs : List ℕ = 72 ∷ (p.seat ∷ drop 1 (message_bytes p.message)) in
          ap (packet_in seats at own) (bytes_many seats p many)
          ∙ in_many seats at own xs many
          ∙ cond-false (names_no_seat seats xs) _ _ (and_right _ (not (ltb p.seat seats)) (ap not (lt-ltb p.seat seats h.there)))
          ∙ read
      | inr two ↦
          let other : 1 - at ≡ p.seat = elim (cases_lt at p.seat) [
            | inl l ↦ omega (arith, h.there)
            | inr l ↦ let apart : p.seat ≢ at = λ e. let no : ⊥ = omega (arith, h.comes e) in no in omega (arith, h.there)
          ] in
          ap (packet_in seats at own) (bytes_two seats p two)
          ∙ in_two seats at own (message_bytes p.message) two
          ∙ ap (λ seat. packet_from_seat at own seat (message_bytes p.message)) other
          ∙ read
    ]

-- ---- what was read

-- a packet from a seat has that seat, and its message was read
pub record FromSeat (at own seat : ℕ) (xs : List ℕ) (p : Packet) : Type 0 where
  pub same : p.seat ≡ seat
  pub read : reading (ack_limit at own p.seat p.message.ack) xs ≡ Ok p.message
  pub facts : Read (ack_limit at own p.seat p.message.ack) xs p.message

seat_read : (at own seat : ℕ) (xs : List ℕ) (p : Packet) → packet_from_seat at own seat xs ≡ Ok p → FromSeat at own seat xs p
seat_read at own seat xs p = by (reading (ack_limit at own seat (ack_in xs)) xs) refl
  where
    by : (r : Result Message Fault) → reading (ack_limit at own seat (ack_in xs)) xs ≡ r → packet_of seat r ≡ Ok p → FromSeat at own seat xs p
    by (Ok m) e f =
        let same : p.seat ≡ seat = cc in
        let is : m ≡ p.message = cc in
        let read : reading (ack_limit at own seat (ack_in xs)) xs ≡ Ok p.message = cc in
        let acks : ack_in xs ≡ p.message.ack = (message_read _ xs p.message read).ack in
        let here : reading (ack_limit at own p.seat p.message.ack) xs ≡ Ok p.message = subst (λ s. reading (ack_limit at own s p.message.ack) xs ≡ Ok p.message) (sym same) (subst (λ n. reading (ack_limit at own seat n) xs ≡ Ok p.message) acks read) in
        record { same = same; read = here; facts = message_read _ xs p.message here }
    by (Err g) e f = let no : ⊥ = cc in absurd no

-- with more than two seats the seat is the byte behind the "H"
pub many_read : (seats at own : ℕ) (xs : List ℕ) (p : Packet) → 2 < seats → packet_in seats at own xs ≡ Ok p → (names_no_seat seats xs ≡ false) × FromSeat at own (get_or xs 1 0) (take 1 xs ++ drop 2 xs) p
many_read seats at own xs p h e =
    let P : Result Packet ReadError → Type 0 = λ r. r ≡ Ok p → (names_no_seat seats xs ≡ false) × FromSeat at own (get_or xs 1 0) (take 1 xs ++ drop 2 xs) p in
    cond_both (names_no_seat seats xs) (Err ReadError.no_seat) (packet_from_seat at own (get_or xs 1 0) (take 1 xs ++ drop 2 xs)) P
    (λ _ f. let no : ⊥ = cc in absurd no)
    (λ here f. (here, seat_read at own (get_or xs 1 0) (take 1 xs ++ drop 2 xs) p f))
    (sym (in_many seats at own xs h) ∙ e)

pub two_read : (seats at own : ℕ) (xs : List ℕ) (p : Packet) → seats ≤ 2 → packet_in seats at own xs ≡ Ok p → FromSeat at own (1 - at) xs p
two_read seats at own xs p h e = seat_read at own (1 - at) xs p (sym (in_two seats at own xs h) ∙ e)

-- a packet of another seat acknowledges no more than was made
pub packet_known : (seats at own : ℕ) (xs : List ℕ) (p : Packet) → packet_in seats at own xs ≡ Ok p → p.seat ≢ at → p.message.ack ≤ own
packet_known seats at own xs p e apart =
    let limit : ack_limit at own p.seat p.message.ack ≡ own = cond-false (eqb p.seat at) _ _ (ne_eqb p.seat at apart) in
    elim (cases_lt 2 seats) [
      | inl h ↦ omega (arith, (many_read seats at own xs p h e).1.facts.known, limit)
      | inr h ↦ omega (arith, (two_read seats at own xs p h e).facts.known, limit)
    ]

-- ---- what is read is what was written

without_second : (a b : ℕ) (xs : List ℕ) → ((i : ℕ) → get_or (a ∷ (b ∷ xs)) i 0 < 256) → (i : ℕ) → get_or (a ∷ xs) i 0 < 256
without_second a b xs small zero = small 0
without_second a b xs small (suc i) = small (suc (suc i))

-- the bytes are those of the packet, and the seat is one of the game
many_written : (seats at own : ℕ) (xs : List ℕ) (p : Packet) → 2 < seats → ((i : ℕ) → get_or xs i 0 < 256) → packet_in seats at own xs ≡ Ok p → (packet_bytes seats p ≡ xs) × IsProper seats at own p
many_written seats at own [] p h small e =
    let no : ⊥ = omega (arith, (many_read seats at own [] p h e).1.facts.long) in absurd no
many_written seats at own (a ∷ []) p h small e =
    let no : ⊥ = omega (arith, (many_read seats at own (a ∷ []) p h e).1.facts.long) in absurd no
many_written seats at own (a ∷ (b ∷ xs)) p h small e =
    let r = many_read seats at own (a ∷ (b ∷ xs)) p h e in
    let back = read_written _ (a ∷ xs) p.message (without_second a b xs small) r.1.read in
    let head : 72 ≡ a = ap (λ ys. get_or ys 0 0) back.0 in
    let there : b < seats = grind (arith, nat_tests, r.0, head) in (
      bytes_many seats p h ∙ ap (λ s. 72 ∷ (s ∷ drop 1 (message_bytes p.message))) r.1.same ∙ ap (λ ys. take 1 ys ++ b ∷ drop 1 ys) back.0,
      record { there = omega (arith, r.1.same, there); comes = λ _. h; proper = back.1 },
    )

pub packet_written : ReadWritten
packet_written seats at own xs p two here small e =
    elim (cases_lt 2 seats) [
      | inl h ↦ many_written seats at own xs p h small e
      | inr h ↦
          let r = two_read seats at own xs p h e in
          let back = read_written _ xs p.message small r.read in
          let comes : p.seat ≡ at → 2 < seats = λ f. let no : ⊥ = omega (arith, r.same, f) in absurd no in
          (bytes_two seats p h ∙ back.0, record { there = omega (arith, r.same); comes = comes; proper = back.1 })
    ]
