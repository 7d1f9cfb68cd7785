-- Both machines' memory along a row of moves. Assumes nothing.
use Rattle.std.proofs.Common.{◌≡◌, ℕ, Vec, Global, ◌+◌, ◌<◌, ◌≤◌, Bool, true, false, cond, leb, List, [], ◌∷◌, ◌++◌, map, length, get_or, take, sym, refl, ap, ap₂, ◌∙◌, subst, arith}
use Rattle.std.proofs.lemmas.List.{take_all, take_more}
use Rattle.court_game.specs.Games.{court_game}
use Rattle.court_game.specs.Saved.{court_saved}
use Rattle.court.specs.declared.state.State.{State}
use Rattle.game.specs.declared.seat.Seat.{Seat}
use Rattle.game.specs.declared.seat.Seat.TheVariants.{Left, Right}
use Rattle.network.specs.Network.{Network, Turn, facing, peer_at, packets_to, new_network, turn, turns}
use Rattle.network.specs.Network as network
use Rattle.network.specs.Promise.{Came}
use Rattle.network.proofs.Arrivals.{both_sure}
use Rattle.network.proofs.Networks.{same_inputs, one_game}
use Rattle.network.proofs.Rows.{turns_push, not_far}
use Rattle.packet.specs.Wire.{message_bytes}
use Rattle.peer.specs.Lent.{log_of}
use Rattle.peer.specs.Peers.{Log, confirmed}
use Rattle.recording.specs.Matches.{frame_bytes, match_of, match_bytes}
use Rattle.recording.proofs.Frames.{take_frames}
use Rattle.recording.proofs.Whole.{frames_by}
use Rattle.rollback.specs.Rows.{Memory, StandsFor}
use Rattle.exchange.specs.declared.moves.Move.{Move}
use Rattle.exchange.specs.declared.moves.Act.{Act}
use Rattle.exchange.specs.declared.moves.Act.TheVariants.{Tick, Deliver}
use Rattle.exchange.specs.Agreed.{Agree}
use Rattle.exchange.proofs.Machines.{narrow}
use Rattle.exchange.specs.Moves.{court_network, court_turn, sends_at, acted, moves_on, after_moves, PeerAt, PacketsAt}

-- both memories, and all packets, are those of a network: the machine at a seat, and the other one
pub record Holds (window : ℕ) (n : Network) (seat : Seat) (own other : Memory) (to_own to_other : List (Vec ℕ Global)) : Type 0 where
  pub own_at : PeerAt window n seat own
  pub other_at : PeerAt window n (facing seat) other
  pub own_packets : PacketsAt n seat to_own
  pub other_packets : PacketsAt n (facing seat) to_other

-- the same, the other one first
pub flipped : (window : ℕ) (n : Network) (seat : Seat) (l r : Memory) (tl tr : List (Vec ℕ Global)) → Holds window n seat l r tl tr → Holds window n (facing seat) r l tr tl
flipped window n Left l r tl tr h =
    record { own_at = h.other_at; other_at = h.own_at; own_packets = h.other_packets; other_packets = h.own_packets }
flipped window n Right l r tl tr h =
    record { own_at = h.other_at; other_at = h.own_at; own_packets = h.other_packets; other_packets = h.own_packets }

-- ---- what a move leaves

-- the other machine, and the packets to the one that it happens at
leaves : (window : ℕ) (n : Network) (seat : Seat) (act : Act) → (peer_at (acted window n seat act) (facing seat) ≡ peer_at n (facing seat)) × (packets_to (acted window n seat act) seat ≡ packets_to n seat)
unfolding acted turn
leaves window n seat (Tick a) = by seat (leb a 15)
  where
    ticked : Seat → Network
    ticked at = court_turn window n (network.tick at a)

    by : (at : Seat) (b : Bool) → (peer_at (cond b (sends_at window (ticked at) at) (ticked at)) (facing at) ≡ peer_at n (facing at)) × (packets_to (cond b (sends_at window (ticked at) at) (ticked at)) at ≡ packets_to n at)
    by Left true = (refl, refl)
    by Left false = (refl, refl)
    by Right true = (refl, refl)
    by Right false = (refl, refl)
leaves window n Left (Deliver k) = (refl, refl)
leaves window n Right (Deliver k) = (refl, refl)

-- ---- both machines, move by move

pub holds_more : (window : ℕ) (n : Network) (seat : Seat) (act : Act) (l k r : Memory) (tl tr ur : List (Vec ℕ Global)) → Holds window n seat l r tl tr → PeerAt window (acted window n seat act) seat k × PacketsAt (acted window n seat act) (facing seat) ur → Holds window (acted window n seat act) seat k r tl ur
holds_more window n seat act l k r tl tr ur h did =
    let same = leaves window n seat act in
    let P : Log → Type 0 = λ log. StandsFor court_saved (facing seat) window log r in
    record { own_at = did.0; other_at = subst P (sym same.0) h.other_at; own_packets = h.own_packets ∙ ap (map message_bytes) (sym same.1); other_packets = did.1 }

-- after the last move
pub holds_all : (window : ℕ) (row : List Move) (i : ℕ) (l r : Memory) (tl tr : List (Vec ℕ Global)) → length row ≤ i → Holds window (after_moves window (take i row)) Left l r tl tr → Holds window (after_moves window row) Left l r tl tr
holds_all window row i l r tl tr end h =
    subst (λ ms. Holds window (after_moves window ms) Left l r tl tr) (take_all i row end) h

moves_push : (window : ℕ) (n : Network) (ms : List Move) (m : Move) → moves_on window n (ms ++ m ∷ []) ≡ acted window (moves_on window n ms) m.seat m.act
unfolding moves_on
moves_push window n [] m = refl
moves_push window n (k ∷ ms) m = moves_push window (acted window n k.seat k.act) ms m

pub moves_more : (window : ℕ) (row : List Move) (i : ℕ) (d : Move) → i < length row → after_moves window (take (i + 1) row) ≡ acted window (after_moves window (take i row)) (get_or row i d).seat (get_or row i d).act
moves_more window row i d h = ap (moves_on window new_network) (take_more row i d h) ∙ moves_push window new_network (take i row) (get_or row i d)

-- ---- a row of moves is a row of turns

abbrev IsNetwork : ℕ → Network → Type 0
IsNetwork window n = (ts : List Turn) × (n ≡ court_network window ts)

turned : (window : ℕ) (n : Network) (t : Turn) → IsNetwork window n → IsNetwork window (court_turn window n t)
turned window n t i =
    (i.0 ++ t ∷ [], ap (λ k. court_turn window k t) i.1 ∙ sym (turns_push (λ b. leb b 15) window new_network i.0 t))

acted_network : (window : ℕ) (n : Network) (seat : Seat) (act : Act) → IsNetwork window n → IsNetwork window (acted window n seat act)
unfolding acted
acted_network window n seat (Deliver k) i = turned window n (network.deliver seat k) i
acted_network window n seat (Tick a) i = by (leb a 15)
  where
    t : Network
    t = court_turn window n (network.tick seat a)

    by : (b : Bool) → IsNetwork window (cond b (sends_at window t seat) t)
    by true = turned window t (network.send seat (peer_at t seat).acked 120) (turned window n (network.tick seat a) i)
    by false = turned window n (network.tick seat a) i

moves_network : (window : ℕ) (n : Network) (ms : List Move) → IsNetwork window n → IsNetwork window (moves_on window n ms)
unfolding moves_on
moves_network window n [] i = i
moves_network window n (m ∷ ms) i = moves_network window (acted window n m.seat m.act) ms (acted_network window n m.seat m.act i)

pub after_network : (window : ℕ) (ms : List Move) → (ts : List Turn) × (after_moves window ms ≡ court_network window ts)
unfolding turns
after_network window ms = moves_network window new_network ms ([], refl)

pub acted_turns : (window : ℕ) (ts : List Turn) (seat : Seat) (act : Act) → (us : List Turn) × (acted window (court_network window ts) seat act ≡ court_network window us)
acted_turns window ts seat act = acted_network window (court_network window ts) seat act (ts, refl)

-- ---- so both agree

-- recordings of the same inputs
same_frames : (window : ℕ) (left right : Log) (k : ℕ) → take k left.own ≡ take k right.other → take k left.other ≡ take k right.own → take k (match_of Left window left).frames ≡ take k (match_of Right window right).frames
same_frames window left right k e f =
    take_frames left.own left.other k ∙ ap₂ frame_bytes e f ∙ sym (take_frames right.other right.own k)

same_recording : (window : ℕ) (left right : Log) → confirmed left ≡ confirmed right → take (confirmed left) (match_of Left window left).frames ≡ take (confirmed left) (match_of Right window right).frames → match_bytes (match_of Left window left) ≡ match_bytes (match_of Right window right)
same_recording window left right e f =
    let n : ℕ = confirmed left in
    let l = take_all n (match_of Left window left).frames (omega (arith, frames_by Left window left)) in
    let r = take_all n (match_of Right window right).frames (omega (arith, frames_by Right window right)) in
    ap (λ fs. match_bytes (record { window = window; frames = fs })) (sym l ∙ f ∙ r)

network_agrees : (window : ℕ) (ts : List Turn) → Agree window (court_network window ts).left (court_network window ts).right
network_agrees window ts =
    let left = same_inputs (λ b. leb b 15) window ts narrow Left in
    let right = same_inputs (λ b. leb b 15) window ts narrow Right in
    let n : Network = court_network window ts in
    let frames = λ (k : ℕ) (h : k ≤ confirmed n.left) (l : k ≤ confirmed n.right). same_frames window n.left n.right k (left.1 k h l) (sym (right.1 k l h)) in
    record {
      left_begins = left.0;
      right_begins = right.0;
      left_same = λ k h l. left.1 k h l;
      right_same = λ k h l. sym (right.1 k l h);
      one_game = λ k h l. one_game State court_game (λ b. leb b 15) window ts narrow k h l;
      same_frames = frames;
      same_recording = λ e. same_recording window n.left n.right e (frames (confirmed n.left) (omega arith) (omega arith));
      left_near = not_far (λ b. leb b 15) window ts Left;
      right_near = not_far (λ b. leb b 15) window ts Right;
    }

pub holds_agree : (window : ℕ) (ms : List Move) (l r : Memory) (tl tr : List (Vec ℕ Global)) → Holds window (after_moves window ms) Left l r tl tr → Agree window (log_of l.peer l.inputs) (log_of r.peer r.inputs)
holds_agree window ms l r tl tr h =
    let is = after_network window ms in
    let P : Network → Type 0 = λ n. Agree window n.left n.right in
    let all = subst P (sym is.1) (network_agrees window is.0) in
    subst (λ a. Agree window a (log_of r.peer r.inputs)) (sym h.own_at.log_is) (subst (λ b. Agree window (after_moves window ms).left b) (sym h.other_at.log_is) all)

-- and are sure of what both had played before a packet of each came
pub holds_sure : (window : ℕ) (ms : List Move) (l r : Memory) (tl tr : List (Vec ℕ Global)) (m : ℕ) (ts : List Turn) → Holds window (after_moves window ms) Left l r tl tr → after_moves window ms ≡ court_network window ts → ((seat : Seat) → Came (λ b. leb b 15) window m ts seat) → (m ≤ confirmed (log_of l.peer l.inputs)) × (m ≤ confirmed (log_of r.peer r.inputs))
holds_sure window ms l r tl tr m ts h e came =
    let near = l.peer.near in
    let is = h.own_at.window_is in
    let few : window ≤ 60 = omega arith in
    let all = both_sure window few (λ b. leb b 15) m ts narrow came in
    let P : Log → Type 0 = λ log. m ≤ confirmed log in
    (subst P (sym (h.own_at.log_is ∙ ap (λ n. n.left) e)) (all Left), subst P (sym (h.other_at.log_is ∙ ap (λ n. n.right) e)) (all Right))
