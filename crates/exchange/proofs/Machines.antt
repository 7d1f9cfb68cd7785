-- One machine's moves, as turns of a network. Assumes nothing.
use Rattle.std.proofs.Common.{◌≡◌, ℕ, ◌+◌, ◌*◌, ◌<◌, ◌≤◌, Bool, true, false, cond, ltb, leb, List, [], ◌∷◌, ◌++◌, map, length, get_or, vec_items, Ok, Vec, Global, sym, refl, ap, ◌∙◌, subst, arith, le-ltb}
use Rattle.std.proofs.ByRecursion.{All-get_or}
use Rattle.std.proofs.lemmas.List.{map_push, length-map, get_or-map}
use Rattle.std.proofs.lemmas.Bool.{leb-true}
use Rattle.court_game.specs.Saved.{court_saved}
use Rattle.game.specs.declared.seat.Seat.{Seat}
use Rattle.game.specs.declared.seat.Seat.TheVariants.{Left, Right}
use Rattle.network.specs.Network.{Network, Turn, facing, peer_at, packets_to, with_peer, with_packet, written, handed, new_network, turn}
use Rattle.network.specs.Network as network
use Rattle.network.proofs.Arrivals.{peer_there, packets_there}
use Rattle.network.proofs.Networks.{none_refused}
use Rattle.network.proofs.OnePeer.{sends_is}
use Rattle.network.proofs.Rows.{handed_there, handed_past}
use Rattle.packet.specs.Wire.{Message, message_bytes, reading}
use Rattle.rollback.specs.declared.outcome.Outcome.{Outcome}
use Rattle.rollback.specs.declared.outcome.Outcome.TheVariants.{Refused}
use Rattle.peer.specs.declared.refusal.Refusal.{Refusal}
use Rattle.peer.specs.Lent.{log_of}
use Rattle.peer.specs.Peers.{Log, tick, arrival, event, run, sends}
use Rattle.rollback.specs.Said.{said_read, said_arrival}
use Rattle.peer.proofs.Logs.{own_long}
use Rattle.rollback.specs.Rows.{Memory, StandsFor}
use Rattle.rollback.specs.Saved.{Happened}
use Rattle.rollback.proofs.Rowed.{stands_more}
use Rattle.session.specs.Events.{said}
use Rattle.exchange.specs.declared.moves.Act.TheVariants.{Tick, Deliver}
use Rattle.session.specs.Rows.{After}
use Rattle.exchange.specs.Moves.{court_network, court_turn, sends_at, acted, PeerAt, PacketsAt}

-- ---- networks by seats

pub packets_beside : (n : Network) (seat at : Seat) (log : Log) → packets_to (with_peer n seat log) at ≡ packets_to n at
packets_beside n Left Left log = refl
packets_beside n Left Right log = refl
packets_beside n Right Left log = refl
packets_beside n Right Right log = refl

pub peer_beside : (n : Network) (seat at : Seat) (m : Message) → peer_at (with_packet n seat m) at ≡ peer_at n at
peer_beside n Left Left m = refl
peer_beside n Left Right m = refl
peer_beside n Right Left m = refl
peer_beside n Right Right m = refl

-- memory of a machine where nothing happened yet
pub begun_at : (window : ℕ) (seat : Seat) (m : Memory) → After seat window [] m → PeerAt window new_network seat m
unfolding run
begun_at window Left m row = row
begun_at window Right m row = row

-- ---- a tick

-- the network after a tick alone
abbrev ticked_network : ℕ → Network → Seat → ℕ → Network
ticked_network window n seat a = court_turn window n (network.tick seat a)

ticked_packets : (window : ℕ) (n : Network) (seat : Seat) (a : ℕ) → packets_to (ticked_network window n seat a) (facing seat) ≡ packets_to n (facing seat)
unfolding turn
ticked_packets window n seat a = packets_beside n seat (facing seat) (event (λ b. leb b 15) window (peer_at n seat) (tick a))

ticked_peer : (window : ℕ) (n : Network) (seat : Seat) (a : ℕ) → peer_at (ticked_network window n seat a) seat ≡ event (λ b. leb b 15) window (peer_at n seat) (tick a)
unfolding turn
ticked_peer window n seat a = peer_there n seat (event (λ b. leb b 15) window (peer_at n seat) (tick a))

by_cond : (b : Bool) (x y : Network) (seat : Seat) → peer_at x seat ≡ peer_at y seat → peer_at (cond b x y) seat ≡ peer_at y seat
by_cond true x y seat e = e
by_cond false x y seat e = refl

moved_peer : (window : ℕ) (n : Network) (seat : Seat) (a : ℕ) → peer_at (acted window n seat (Tick a)) seat ≡ event (λ b. leb b 15) window (peer_at n seat) (tick a)
unfolding acted turn
moved_peer window n seat a =
    let t : Network = ticked_network window n seat a in
    by_cond (leb a 15) (sends_at window t seat) t seat (peer_beside t (facing seat) seat (written (peer_at t seat) (peer_at t seat).acked 120))
    ∙ ticked_peer window n seat a

-- the memory of a machine whose time for a frame it was
pub ticked_at : (window : ℕ) (n : Network) (seat : Seat) (a : ℕ) (m k : Memory) → PeerAt window n seat m → Happened court_saved m.peer m.inputs m.states (tick a) k.peer k.inputs k.states → PeerAt window (acted window n seat (Tick a)) seat k
ticked_at window n seat a m k s h =
    let P : Log → Type 0 = λ log. StandsFor court_saved seat window log k in
    subst P (sym (moved_peer window n seat a)) (stands_more court_saved seat window (peer_at n seat) m k (tick a) s h)

-- ---- the packet that it wrote

-- a peer was acknowledged no more than it made
acked_few : (seat : Seat) (window : ℕ) (log : Log) (m : Memory) → StandsFor court_saved seat window log m → log.acked ≤ length log.own
unfolding log_of
acked_few seat window log m s =
    let p = m.peer in
    let few = p.made in
    let a : p.acked ≡ log.acked = ap (λ l. l.acked) s.log_is in
    let o : length log.own ≡ p.own = ap (λ l. length l.own) (sym s.log_is) ∙ own_long p m.inputs s.roomy.inputs_long in
    omega arith

-- with one packet more
pub packet_more : (window : ℕ) (n : Network) (seat : Seat) (a : ℕ) (k : Memory) (ps : List (Vec ℕ Global)) (s : Vec ℕ Global) → leb a 15 ≡ true → PacketsAt n (facing seat) ps → PeerAt window (acted window n seat (Tick a)) seat k → vec_items s ≡ message_bytes (sends (log_of k.peer k.inputs)) → PacketsAt (acted window n seat (Tick a)) (facing seat) (ps ++ s ∷ [])
unfolding acted turn
packet_more window n seat a k ps s fit at stands is =
    let t : Network = ticked_network window n seat a in
    let log : Log = peer_at t seat in
    let m : Message = written log log.acked 120 in
    let same : log_of k.peer k.inputs ≡ log = stands.log_is ∙ moved_peer window n seat a ∙ sym (ticked_peer window n seat a) in
    let few : log.acked ≤ length log.own = subst (λ l. l.acked ≤ length l.own) (moved_peer window n seat a ∙ sym (ticked_peer window n seat a)) (acked_few seat window (peer_at (acted window n seat (Tick a)) seat) k stands) in
    let bytes : vec_items s ≡ message_bytes m = is ∙ ap (λ l. message_bytes (sends l)) same ∙ ap message_bytes (sends_is log few) in
    let whole : packets_to (acted window n seat (Tick a)) (facing seat) ≡ packets_to n (facing seat) ++ m ∷ [] =
    ap (λ b. packets_to (cond b (sends_at window t seat) t) (facing seat)) fit ∙ packets_there t (facing seat) m ∙ ap (λ zs. zs ++ m ∷ []) (ticked_packets window n seat a) in
    map_push vec_items ps s
    ∙ ap (λ zs. zs ++ vec_items s ∷ []) at
    ∙ ap (λ z. map message_bytes (packets_to n (facing seat)) ++ z ∷ []) bytes
    ∙ sym (map_push message_bytes (packets_to n (facing seat)) m)
    ∙ ap (map message_bytes) (sym whole)

-- with none
pub packet_none : (window : ℕ) (n : Network) (seat : Seat) (a : ℕ) (ps : List (Vec ℕ Global)) → leb a 15 ≡ false → PacketsAt n (facing seat) ps → PacketsAt (acted window n seat (Tick a)) (facing seat) ps
unfolding acted turn
packet_none window n seat a ps unfit at =
    let t : Network = ticked_network window n seat a in
    at ∙ ap (map message_bytes) (sym (ap (λ b. packets_to (cond b (sends_at window t seat) t) (facing seat)) unfit ∙ ticked_packets window n seat a))

-- ---- a packet that comes

-- packets by their numbers
packet_at : (ps : List (Vec ℕ Global)) (ms : List Message) (k : ℕ) (d : Vec ℕ Global) (e : Message) → map vec_items ps ≡ map message_bytes ms → k < length ps → (k < length ms) × (vec_items (get_or ps k d) ≡ message_bytes (get_or ms k e))
packet_at ps ms k d e same h =
    let n : length ps ≡ length ms = sym (length-map ps vec_items) ∙ ap length same ∙ length-map ms message_bytes in
    (omega arith, sym (get_or-map vec_items ps k d [] h) ∙ ap (λ zs. get_or zs k []) same ∙ get_or-map message_bytes ms k e [] (omega arith))

no_message : Message
no_message = record { first = 0; inputs = []; ack = 0 }

-- the memory of a machine to which it came
pub delivered_at : (window : ℕ) (n : Network) (seat : Seat) (number : ℕ) (ps : List (Vec ℕ Global)) (d : Vec ℕ Global) (m k : Memory) → number < length ps → PacketsAt n seat ps → PeerAt window n seat m → Happened court_saved m.peer m.inputs m.states (arrival (vec_items (get_or ps number d))) k.peer k.inputs k.states → PeerAt window (acted window n seat (Deliver number)) seat k
unfolding acted turn
delivered_at window n seat number ps d m k h at s did =
    let there = packet_at ps (packets_to n seat) number d no_message at h in
    let log : Log = peer_at n seat in
    let new : peer_at (acted window n seat (Deliver number)) seat ≡ event (λ b. leb b 15) window log (arrival (vec_items (get_or ps number d))) =
    peer_there n seat (handed (λ b. leb b 15) window log (packets_to n seat) number)
    ∙ handed_there (λ b. leb b 15) window log (packets_to n seat) number no_message there.0
    ∙ ap (λ xs. event (λ b. leb b 15) window log (arrival xs)) (sym there.1) in
    let P : Log → Type 0 = λ l. StandsFor court_saved seat window l k in
    subst P (sym new) (stands_more court_saved seat window log m k (arrival (vec_items (get_or ps number d))) s did)

-- and of one to which none came
pub delivered_none : (window : ℕ) (n : Network) (seat : Seat) (number : ℕ) (ps : List (Vec ℕ Global)) (m : Memory) → length ps ≤ number → PacketsAt n seat ps → PeerAt window n seat m → PeerAt window (acted window n seat (Deliver number)) seat m
unfolding acted turn
delivered_none window n seat number ps m h at s =
    let many : length ps ≡ length (packets_to n seat) = sym (length-map ps vec_items) ∙ ap length at ∙ length-map (packets_to n seat) message_bytes in
    let same : peer_at (acted window n seat (Deliver number)) seat ≡ peer_at n seat =
    peer_there n seat (handed (λ b. leb b 15) window (peer_at n seat) (packets_to n seat) number) ∙ handed_past (λ b. leb b 15) window (peer_at n seat) (packets_to n seat) number (omega arith) in
    let P : Log → Type 0 = λ l. StandsFor court_saved seat window l m in
    subst P (sym same) s

-- the inputs that fit are those up to 15
pub narrow : (a : ℕ) → leb a 15 ≡ true → a ≤ 15
narrow a e = leb-true a 15 e

-- what is said of a packet that is read
read_taken : (window inputs states : ℕ) (log : Log) (xs : List ℕ) (m : Message) (f : Refusal) → 2000000 ≤ inputs → (window + 1) * 64 ≤ states → reading (length log.own) xs ≡ Ok m → said_arrival window inputs states log xs ≡ Refused f → ⊥
unfolding said_arrival
read_taken window inputs states log xs m f h k read e =
    let i : ltb inputs 2000000 ≡ false = le-ltb _ _ h in
    let s : ltb states ((window + 1) * 64) ≡ false = le-ltb _ _ k in
    let w : ◌≡◌ {A = Outcome} (said_read log (Ok m)) (Refused f) = simp (i, s, read) at e in
    cc

-- none is refused that was written at the network
pub none_refused_at : (window : ℕ) (ts : List Turn) (seat : Seat) (number : ℕ) (ps : List (Vec ℕ Global)) (d : Vec ℕ Global) (m : Memory) (f : Refusal) → number < length ps → PacketsAt (court_network window ts) seat ps → PeerAt window (court_network window ts) seat m → Refused f ≡ said (λ b. leb b 15) m.peer.window (length m.inputs) (length m.states) (log_of m.peer m.inputs) (arrival (vec_items (get_or ps number d))) → ⊥
none_refused_at window ts seat number ps d m f h at s e =
    let n : Network = court_network window ts in
    let there = packet_at ps (packets_to n seat) number d no_message at h in
    let k : Message = get_or (packets_to n seat) number no_message in
    let read : reading (length (peer_at n seat).own) (message_bytes k) ≡ Ok k = All-get_or _ (packets_to n seat) number no_message there.0 (none_refused (λ b. leb b 15) window ts narrow seat) in
    let here : reading (length (log_of m.peer m.inputs).own) (vec_items (get_or ps number d)) ≡ Ok k = ap (λ l. reading (length l.own) (vec_items (get_or ps number d))) s.log_is ∙ ap (reading (length (peer_at n seat).own)) there.1 ∙ read in
    read_taken m.peer.window _ _ (log_of m.peer m.inputs) (vec_items (get_or ps number d)) k f s.roomy.inputs_long (omega arith) here (sym e)

-- a packet that comes leaves those that were written
pub delivered_packets : (window : ℕ) (n : Network) (seat at : Seat) (number : ℕ) (ps : List (Vec ℕ Global)) → PacketsAt n at ps → PacketsAt (acted window n seat (Deliver number)) at ps
unfolding acted turn
delivered_packets window n seat at number ps e =
    e ∙ ap (map message_bytes) (sym (packets_beside n seat at (handed (λ b. leb b 15) window (peer_at n seat) (packets_to n seat) number)))
