-- The counts of a row of moves. Assumes nothing.
use Rattle.std.proofs.Common.{◌≡◌, ℕ, Vec, Global, ◌+◌, ◌*◌, ◌<◌, ◌≤◌, Bool, true, false, cond, ltb, leb, List, [], ◌∷◌, ◌++◌, map, length, get_or, take, vec_items, Option, Some, None, Ok, sym, refl, ap, ◌∙◌, subst, arith, le-ltb}
use Rattle.std.proofs.lemmas.List.{take_more, length-map}
use Rattle.std.specs.Prelude.{is_some, IfSome}
use Rattle.game.specs.declared.seat.Seat.{Seat}
use Rattle.network.specs.Network.{Network, packets_to, new_network}
use Rattle.packet.specs.Wire.{message_bytes, reading}
use Rattle.peer.specs.declared.refusal.Refusal.TheVariants.{Input}
use Rattle.peer.specs.Lent.{log_of}
use Rattle.peer.specs.Peers.{Log, Event, tick, arrival, goes_on}
use Rattle.peer.specs.Refusals.{memory_checked}
use Rattle.rollback.specs.declared.outcome.Outcome.{Outcome}
use Rattle.rollback.specs.declared.outcome.Outcome.TheVariants.{Taken, Lost, Refused}
use Rattle.rollback.specs.Rows.{Memory}
use Rattle.rollback.specs.Said.{if_checked, said_read, said_tick, said_arrival}
use Rattle.session.specs.Events.{said}
use Rattle.exchange.specs.declared.moves.Act.TheVariants.{Deliver}
use Rattle.exchange.specs.declared.moves.Move.{Move}
use Rattle.exchange.specs.declared.tally.Tally.{Tally}
use Rattle.exchange.specs.Moves.{acted, moves_on, after_moves, bytes_of, PeerAt, PacketsAt}
use Rattle.exchange.specs.Tallies.{counted_by, said_at, counted_at, counted_for, tally_on, tally_after}

-- ---- long memory

checked_long : (window inputs states : ℕ) → 2000000 ≤ inputs → (window + 1) * 64 ≤ states → memory_checked window inputs states ≡ Ok tt
checked_long window inputs states h k =
    let i : ltb inputs 2000000 ≡ false = le-ltb _ _ h in
    let s : ltb states ((window + 1) * 64) ≡ false = le-ltb _ _ k in
    simp (i, s) refl

checked_same : (window inputs states : ℕ) → 2000000 ≤ inputs → (window + 1) * 64 ≤ states → memory_checked window inputs states ≡ memory_checked window 2000000 ((window + 1) * 64)
checked_same window inputs states h k =
    checked_long window inputs states h k ∙ sym (checked_long window 2000000 ((window + 1) * 64) (omega arith) (omega arith))

-- how long it is changes nothing in what is said
said_long : (fits : ℕ → Bool) (window inputs states : ℕ) (log : Log) (e : Event) → 2000000 ≤ inputs → (window + 1) * 64 ≤ states → said fits window inputs states log e ≡ said fits window 2000000 ((window + 1) * 64) log e
unfolding said_tick said_arrival
said_long fits window inputs states log (tick a) h k =
    ap (λ c. if_checked c (cond (fits a) (cond (goes_on window log) (Taken 1) Lost) (Refused Input))) (checked_same window inputs states h k)
said_long fits window inputs states log (arrival xs) h k =
    ap (λ c. if_checked c (said_read log (reading (length log.own) xs))) (checked_same window inputs states h k)

-- what is said at a machine whose memory is that of a network's peer
pub said_there : (window : ℕ) (n : Network) (seat : Seat) (m : Memory) (e : Event) → PeerAt window n seat m → said (λ b. leb b 15) m.peer.window (length m.inputs) (length m.states) (log_of m.peer m.inputs) e ≡ said_at window n seat e
said_there window n seat m e s =
    let w = s.window_is in
    ap (λ v. said (λ b. leb b 15) v (length m.inputs) (length m.states) (log_of m.peer m.inputs) e) w
    ∙ said_long (λ b. leb b 15) window (length m.inputs) (length m.states) (log_of m.peer m.inputs) e s.roomy.inputs_long s.roomy.states_long
    ∙ ap (λ log. said (λ b. leb b 15) window 2000000 ((window + 1) * 64) log e) s.log_is

-- ---- a packet, whether it is there or not

delivered_count : (window : ℕ) (n : Network) (seat : Seat) (number : ℕ) (t u : Tally) (b : Bool) (o : Option Outcome) → is_some o ≡ b → IfSome o (λ q. q ≡ said_at window n seat (arrival (get_or (map message_bytes (packets_to n seat)) number []))) → IfSome o (λ q. u ≡ counted_by (Deliver number) q t) → (o ≡ None → u ≡ t) → u ≡ cond b (counted_by (Deliver number) (said_at window n seat (arrival (get_or (map message_bytes (packets_to n seat)) number []))) t) t
delivered_count window n seat number t u true (Some q) e s counted idle = counted ∙ ap (λ p. counted_by (Deliver number) p t) s
delivered_count window n seat number t u false None e s counted idle = idle refl
delivered_count window n seat number t u false (Some q) e s counted idle = cc
delivered_count window n seat number t u true None e s counted idle = cc

pub delivered_tally : (window : ℕ) (n : Network) (seat : Seat) (number : ℕ) (ps : List (Vec ℕ Global)) (m : Memory) (t u : Tally) (o : Option Outcome) → PeerAt window n seat m → PacketsAt n seat ps → is_some o ≡ ltb number (length ps) → IfSome o (λ q. q ≡ said (λ b. leb b 15) m.peer.window (length m.inputs) (length m.states) (log_of m.peer m.inputs) (arrival (bytes_of ps number))) → IfSome o (λ q. u ≡ counted_by (Deliver number) q t) → (o ≡ None → u ≡ t) → u ≡ counted_at window n seat (Deliver number) t
delivered_tally window n seat number ps m t u o s at there said_is counted idle =
    let many : length ps ≡ length (packets_to n seat) = sym (length-map ps vec_items) ∙ ap length at ∙ length-map (packets_to n seat) message_bytes in
    let xs : List ℕ = get_or (map message_bytes (packets_to n seat)) number [] in
    let told = said_there window n seat m (arrival (bytes_of ps number)) s ∙ ap (λ zs. said_at window n seat (arrival (get_or zs number []))) at in
    let P : Outcome → Type 0 = λ v. IfSome o (λ q. q ≡ v) in
    delivered_count window n seat number t u (ltb number (length (packets_to n seat))) o (there ∙ ap (ltb number) many) (subst P told said_is) counted idle

-- ---- move by move

tally_push : (seat : Seat) (window : ℕ) (n : Network) (t : Tally) (ms : List Move) (m : Move) → tally_on seat window n t (ms ++ m ∷ []) ≡ counted_for seat window (moves_on window n ms) m.seat m.act (tally_on seat window n t ms)
unfolding tally_on moves_on
tally_push seat window n t [] m = refl
tally_push seat window n t (k ∷ ms) m = tally_push seat window (acted window n k.seat k.act) (counted_for seat window n k.seat k.act t) ms m

pub tally_more : (seat : Seat) (window : ℕ) (row : List Move) (i : ℕ) (d : Move) → i < length row → tally_after window seat (take (i + 1) row) ≡ counted_for seat window (after_moves window (take i row)) (get_or row i d).seat (get_or row i d).act (tally_after window seat (take i row))
tally_more seat window row i d h =
    let none : Tally = record { lost = 0; refused = 0; played = 0; again = 0 } in
    ap (tally_on seat window new_network none) (take_more row i d h) ∙ tally_push seat window new_network none (take i row) (get_or row i d)
