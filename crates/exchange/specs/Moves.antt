-- Two sessions and the packets between them, as a network. Assumes nothing: these are definitions.
use Rattle.std.specs.Prelude.{◌≡◌, ℕ, Bool, cond, List, [], ◌∷◌, map, length, get_or, vec_items, Vec, nat_le}
use Rattle.court_game.specs.Games.{is_input}
use Rattle.std.specs.Global.{Global}
use Rattle.court_game.specs.Saved.{court_saved}
use Rattle.game.specs.declared.seat.Seat.{Seat}
use Rattle.packet.specs.Wire.{Message, message_bytes}
use Rattle.network.specs.Network.{Network, Turn, tick, send, deliver, peer_at, packets_to, new_network, turn, network}
use Rattle.peer.specs.Lent.{log_of}
use Rattle.peer.specs.Peers.{Event}
use Rattle.rollback.specs.declared.outcome.Outcome.{Outcome}
use Rattle.rollback.specs.Rows.{Memory, StandsFor}
use Rattle.rollback.specs.Saved.{Happened}
use Rattle.session.specs.Events.{said}
use Rattle.session.specs.Rows.{memory}
use Rattle.exchange.specs.declared.moves.Move.{Move}
use Rattle.exchange.specs.declared.moves.Act.{Act}
use Rattle.exchange.specs.declared.moves.Act.TheVariants.{Tick, Deliver}
use Rattle.exchange.specs.declared.machine.Machine.{Machine}

-- a network of the court's game: what a row of turns makes of the new one
abbrev pub court_network : ℕ → List Turn → Network
court_network window ts = network is_input window ts

-- a turn at such a network
abbrev pub court_turn : ℕ → Network → Turn → Network
court_turn window n t = turn is_input window n t

-- the peer at a seat writes the packet that it sends
abbrev pub sends_at : ℕ → Network → Seat → Network
sends_at window n seat = court_turn window n (send seat (peer_at n seat).acked 120)

-- what happens at a seat, in turns: a tick, and the packet that is written unless the tick was refused; or a packet that comes
unfoldable pub acted : ℕ → Network → Seat → Act → Network
acted window n seat (Tick a) =
    cond (nat_le a 15) (sends_at window (court_turn window n (tick seat a)) seat) (court_turn window n (tick seat a))
acted window n seat (Deliver k) = court_turn window n (deliver seat k)

-- a row of moves from the beginning
unfoldable pub moves_on : ℕ → Network → List Move → Network
moves_on window n [] = n
moves_on window n (m ∷ ms) = moves_on window (acted window n m.seat m.act) ms

abbrev pub after_moves : ℕ → List Move → Network
after_moves window ms = moves_on window new_network ms

-- what moves make of the new network, turns do too; and a move leads on from one that turns made: so what holds of every network of
-- turns holds after moves
abbrev pub MovesAreTurns : Type 0
MovesAreTurns = (window : ℕ) (ms : List Move) → (ts : List Turn) × (after_moves window ms ≡ court_network window ts)

abbrev pub MoveIsTurns : Type 0
MoveIsTurns =
    (window : ℕ) (ts : List Turn) (seat : Seat) (act : Act) → (us : List Turn) × (acted window (court_network window ts) seat act ≡ court_network window us)

-- ---- memory

-- a machine's numbers and its lent memory
abbrev pub memory_of : Machine → Memory
memory_of m = memory m.peer m.inputs.now m.states.now

-- the memory that is lent is the same, whatever it holds
abbrev pub SameLent : Machine → Machine → Type 0
SameLent a b = (b.inputs.ghost_name ≡ a.inputs.ghost_name) × (b.states.ghost_name ≡ a.states.ghost_name)

-- what is said of an event at a machine, and what the event does there
abbrev pub said_of : Machine → Event → Outcome
said_of m e = said is_input m.peer.window (length m.inputs.now) (length m.states.now) (log_of m.peer m.inputs.now) e

abbrev pub HappenedTo : Machine → Event → Machine → Type 0
HappenedTo m e k = Happened court_saved m.peer m.inputs.now m.states.now e k.peer k.inputs.now k.states.now

-- the bytes of a packet, by its number
abbrev pub bytes_of : List (Vec ℕ Global) → ℕ → List ℕ
bytes_of ps k = get_or (map vec_items ps) k []

-- the bytes of a packet, if it is written
abbrev pub packet_if : Bool → Message → List (List ℕ)
packet_if b m = cond b (message_bytes m ∷ []) []

-- memory that stands for the peer at a seat of a network
abbrev pub PeerAt : ℕ → Network → Seat → Memory → Type 0
PeerAt window n seat m = StandsFor court_saved seat window (peer_at n seat) m

-- packets that are those ever written to a seat
abbrev pub PacketsAt : Network → Seat → List (Vec ℕ Global) → Type 0
PacketsAt n seat ps = map vec_items ps ≡ map message_bytes (packets_to n seat)
