-- Packets at any number of seats: a message, and the seat that it is from. With two seats the bytes
-- are the message's alone; with more the sender's seat stands behind the "H".
-- Assumes nothing: these are definitions, and statements that are proved in proofs/.
use Rattle.std.specs.Prelude.{◌≡◌, ℕ, ◌-◌, ◌^◌, ◌<◌, ◌≤◌, if◌then◌else◌, Bool, ◌&&◌, not, List, ◌∷◌, ◌++◌, length, take, drop, Ok, Err, Result, ◌==◌, nat_lt, slice_index}
use Rattle.packet.specs.Wire.{Message, Proper, message_bytes, ack_in, reading}
use Rattle.packet.specs.declared.fault.Fault.{Fault}

pub record Packet : Type 0 where
  pub seat : ℕ
  pub message : Message

-- as many inputs as a packet has at most
abbrev pub most_packet_inputs : ℕ
most_packet_inputs = 120

-- the "H" that a packet begins with
abbrev pub mark : ℕ
mark = 72

-- the byte behind the "H" is no seat of the game, or the message is in fault
pub data ReadError : Type 0 where
  no_seat : ReadError
  in_message : Fault → ReadError

unfoldable pub packet_bytes : ℕ → Packet → List ℕ
packet_bytes seats p =
    let bytes : List ℕ = message_bytes p.message in
    if nat_lt 2 seats then take 1 bytes ++ p.seat ∷ drop 1 bytes else bytes

-- ---- reading, at a seat where so many inputs were made

-- an acknowledgement is bounded by the inputs that were made, but for a packet that came back
abbrev pub ack_limit : ℕ → ℕ → ℕ → ℕ → ℕ
ack_limit at own seat ack = if seat == at then ack else own

abbrev pub packet_of : ℕ → Result Message Fault → Result Packet ReadError
packet_of seat (Ok m) = Ok (record { seat = seat; message = m })
packet_of seat (Err f) = Err (ReadError.in_message f)

-- a packet from a seat, by its message's bytes
abbrev pub packet_from_seat : ℕ → ℕ → ℕ → List ℕ → Result Packet ReadError
packet_from_seat at own seat bytes =
    packet_of seat (reading (ack_limit at own seat (ack_in bytes)) bytes)

-- the "H" is there, and the byte behind it is no seat
abbrev pub names_no_seat : ℕ → List ℕ → Bool
names_no_seat seats xs =
    nat_lt 1 (length xs) && slice_index xs 0 == mark && not (nat_lt (slice_index xs 1) seats)

-- with two seats every packet is from the other
unfoldable pub packet_in : ℕ → ℕ → ℕ → List ℕ → Result Packet ReadError
packet_in seats at own xs =
    if nat_lt 2 seats then
    (if names_no_seat seats xs then Err ReadError.no_seat
    else packet_from_seat at own (slice_index xs 1) (take 1 xs ++ drop 2 xs))
    else packet_from_seat at own (1 - at) xs

-- ---- what is promised

-- a packet that can come to a seat and is taken there
pub record IsProper (seats at own : ℕ) (p : Packet) : Type 0 where
  pub there : p.seat < seats
  pub comes : p.seat ≡ at → 2 < seats
  pub proper : Proper (ack_limit at own p.seat p.message.ack) p.message

-- what is written is read
abbrev pub PacketRead : Type 0
PacketRead =
    (seats at own : ℕ) (p : Packet) → own < 2 ^ 32 → p.message.ack < 2 ^ 32 → at < seats →
    IsProper seats at own p → packet_in seats at own (packet_bytes seats p) ≡ Ok p

-- and only that: what is read as a packet is that packet's bytes
abbrev pub ReadWritten : Type 0
ReadWritten =
    (seats at own : ℕ) (xs : List ℕ) (p : Packet) → 2 ≤ seats → at < seats →
    ((i : ℕ) → slice_index xs i < 256) → packet_in seats at own xs ≡ Ok p →
    (packet_bytes seats p ≡ xs) × IsProper seats at own p
