-- What every row of turns keeps, and what follows at every network. Assumes nothing.
use Rattle.std.proofs.Common.{◌≡◌, ℕ, Bool, List, [], ◌∷◌, ◌++◌, length, Ok, sym, ap₂, arith}
use Rattle.std.specs.List.{AllByRecursion}
use Rattle.std.proofs.ByRecursion.{All-weaker}
use Rattle.game.specs.Plain.{plays}
use Rattle.game.specs.Seats.{facing}
use Rattle.game.specs.declared.seat.Seat.{Seat}
use Rattle.game.specs.declared.seat.Seat.TheVariants.{Left, Right}
use Rattle.packet.specs.Wire.{Message, message_bytes, reading}
use Rattle.peer.specs.Peers.{Log, Event, arrival, new_log, event, confirmed_at}
use Rattle.network.specs.Network.{Network, Turn, tick, send, deliver, peer_at, packets_to, with_peer, with_packet, written, handed, turn, turns, new_network, network}
use Rattle.network.specs.Promise.{Narrow, SameInputs, OneGame, NoneRefused}
use Rattle.network.proofs.Beginnings.{begins_refl, begins_take}
use Rattle.network.proofs.OnePeer.{event_grows}
use Rattle.network.proofs.Halves.{Fair, Half, half_beside, half_packet, half_tick, half_arrival, taken, fair_written}
use Rattle.network.proofs.Rows.{by_handed, ran_handed, ran_grows}

abbrev pub Inv : ℕ → Network → Type 0
Inv window n = (seat : Seat) → Half window (peer_at n seat) (peer_at n (facing seat)) (packets_to n seat)

module _ (window : ℕ) where
  -- the half across
  pub across : (n : Network) → Inv window n → (seat : Seat) → Half window (peer_at n (facing seat)) (peer_at n seat) (packets_to n (facing seat))
  across n i Left = i Right
  across n i Right = i Left

  -- both halves, where one peer has another log
  inv_peer : (n : Network) (at : Seat) (log : Log) → Half window log (peer_at n (facing at)) (packets_to n at) → Half window (peer_at n (facing at)) log (packets_to n (facing at)) → Inv window (with_peer n at log)
  inv_peer n Left log p q Left = p
  inv_peer n Left log p q Right = q
  inv_peer n Right log p q Left = q
  inv_peer n Right log p q Right = p

  -- and where there is one more packet of it
  inv_packet : (n : Network) (at : Seat) (m : Message) → Inv window n → Half window (peer_at n (facing at)) (peer_at n at) (packets_to n (facing at) ++ m ∷ []) → Inv window (with_packet n (facing at) m)
  inv_packet n Left m i q Left = i Left
  inv_packet n Left m i q Right = q
  inv_packet n Right m i q Left = q
  inv_packet n Right m i q Right = i Right

  half_new : Half window new_log new_log []
  half_new = record { begins = begins_refl []; near = omega arith; heard = omega arith; known = omega arith; fit = tt; few = omega arith; packets = tt }

  inv_new : Inv window new_network
  inv_new Left = half_new
  inv_new Right = half_new

  -- every packet is taken
  pub all_taken : (n : Network) → Inv window n → (seat : Seat) → AllByRecursion (λ m. reading (length (peer_at n seat).own) (message_bytes m) ≡ Ok m) (packets_to n seat)
  all_taken n i seat =
      All-weaker (Fair window (peer_at n (facing seat))) _
      (taken window (peer_at n seat) (peer_at n (facing seat)) (packets_to n seat) (packets_to n (facing seat)) (i seat) (across n i seat))
      (packets_to n seat) (i seat).packets

module _ (fits : ℕ → Bool) (window : ℕ) (narrow : Narrow fits) where
  pub inv_turn : (n : Network) (t : Turn) → Inv window n → Inv window (turn fits window n t)
  unfolding turn
  inv_turn n (tick at a) i =
      let me : Log = peer_at n at in
      let you : Log = peer_at n (facing at) in
      let to : Log = event fits window me (Event.tick a) in
      inv_peer window n at to (half_tick window fits me you (packets_to n at) a narrow (i at))
      (half_beside window you me to (packets_to n (facing at)) (event_grows fits window me (Event.tick a)) (across window n i at))
  inv_turn n (send at from k) i =
      let me : Log = peer_at n at in
      let m : Message = written me from k in
      inv_packet window n at m i
      (half_packet window (peer_at n (facing at)) me (packets_to n (facing at)) m (fair_written window me from k (i at).near (i at).fit) (across window n i at))
  inv_turn n (deliver at k) i =
      let me : Log = peer_at n at in
      let you : Log = peer_at n (facing at) in
      let ms : List Message = packets_to n at in
      let back : List Message = packets_to n (facing at) in
      let to : Log = handed fits window me ms k in
      let each : AllByRecursion (λ m. Half window (event fits window me (arrival (message_bytes m))) you ms) ms =
      All-weaker (Fair window you) _ (half_arrival window fits me you ms back (i at) (across window n i at)) ms (i at).packets in
      inv_peer window n at to (by_handed fits window me ms k (λ l. Half window l you ms) (i at) each)
      (half_beside window you me to back (ran_grows fits window me to (ran_handed fits window me ms k)) (across window n i at))

  pub inv_turns : (n : Network) (ts : List Turn) → Inv window n → Inv window (turns fits window n ts)
  unfolding turns
  inv_turns n [] i = i
  inv_turns n (t ∷ ts) i = inv_turns (turn fits window n t) ts (inv_turn n t i)

  pub inv_network : (ts : List Turn) → Inv window (network fits window ts)
  inv_network ts = inv_turns new_network ts (inv_new window)

-- ---- what follows

pub none_refused : NoneRefused
none_refused fits window ts narrow = all_taken window (network fits window ts) (inv_network fits window narrow ts)

pub same_inputs : SameInputs
same_inputs fits window ts narrow seat =
    let n : Network = network fits window ts in
    let i : Inv window n = inv_network fits window narrow ts in
    ((i seat).begins, λ k p q. begins_take k (peer_at n (facing seat)).other (peer_at n seat).own (across window n i seat).begins (omega arith))

pub one_game : (S : Type 0) → OneGame S
unfolding confirmed_at
one_game S g fits window ts narrow k p q =
    let same = same_inputs fits window ts narrow in
    ap₂ (plays g g.start) ((same Left).1 k p q) (sym ((same Right).1 k q p))
