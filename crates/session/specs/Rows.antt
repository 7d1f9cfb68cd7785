-- A session of the court's game over a row of events. Assumes nothing: these are definitions.
use Rattle.std.specs.Prelude.{◌≡◌, ℕ, ◌+◌, ◌*◌, Bool, false, cond, ◌&&◌, List, [], ◌∷◌, ◌++◌, length, Option}
use Rattle.court_game.specs.Games.{is_input}
use Rattle.court_game.specs.Saved.{court_saved}
use Rattle.court_game.specs.Sounding.{sounding_game}
use Rattle.game.specs.declared.seat.Seat.{Seat}
use Rattle.packet.specs.Wire.{message_bytes}
use Rattle.peer.specs.declared.numbers.Peer.{Peer}
use Rattle.peer.specs.Peers.{Log, Event, tick, arrival, event, goes_on, new_log, run, sends, shows}
use Rattle.rollback.specs.Rows.{Memory, StandsFor}
use Rattle.session.specs.Events.{sent, packet_over}
use Rattle.session.specs.Files.{event_bytes}
use Rattle.sound.specs.Sound.{sound_bytes}

-- the log of a peer to which a row of events happened, from its beginning
abbrev pub log_after : ℕ → List Event → Log
log_after window es = run is_input window new_log es

abbrev pub memory : Peer → List ℕ → List ℕ → Memory
memory p inputs states = record { peer = p; inputs = inputs; states = states }

-- memory as a session has it that was begun and to which a row of events happened, right and wrong:
-- it stands for their log
abbrev pub After : Seat → ℕ → List Event → Memory → Type 0
After seat window es m = StandsFor court_saved seat window (log_after window es) m

-- after a row of events the packet is written that the definitions give for it, and its length
-- told; or none is, and all stays
abbrev pub WritesOwn : ℕ → List Event → Bool → List ℕ → Option ℕ → List ℕ → Type 0
WritesOwn window es written out length out' =
    (length ≡ sent written (sends (log_after window es))) × (out' ≡ packet_over written (sends (log_after window es)) out)

-- ---- all that is sent

-- whether a packet is written for an event, where memory is long enough: after a tick with an input
-- of the game
abbrev pub tells : Event → Bool
tells (tick a) = is_input a
tells (arrival xs) = false

-- the packets that a peer writes over a row of events, as events of the other's file
unfoldable pub packets_sent : ℕ → Log → List Event → List ℕ
packets_sent window log [] = []
packets_sent window log (e ∷ es) =
    cond (tells e) (event_bytes (arrival (message_bytes (sends (event is_input window log e))))) []
    ++ packets_sent window (event is_input window log e) es

-- ---- all that is heard

-- whether an event plays a frame that was not played before, where memory is long enough: it makes
-- the own inputs longer
abbrev pub plays_next : ℕ → Log → Event → Bool
plays_next window log (tick a) = is_input a && goes_on window log
plays_next window log (arrival xs) = false

-- the sounds that are handed out over a row of events: of each frame that is played next, what then
-- is shown of it. Frames that are played again are not handed out again; a tick that is lost hands
-- out nothing, and no packet does
unfoldable pub sounds_handed : Seat → ℕ → Log → List Event → List ℕ
sounds_handed seat window log [] = []
sounds_handed seat window log (e ∷ es) =
    let next : Log = event is_input window log e in
    cond (plays_next window log e) (sound_bytes (shows sounding_game seat next).tone) []
    ++ sounds_handed seat window next es

-- each frame is handed out once: over any row of events, right and wrong, there are 1,600 bytes for
-- each frame by which the own inputs become longer, whatever came in between
abbrev pub HandedOnce : Type 0
HandedOnce =
    (seat : Seat) (window : ℕ) (log : Log) (es : List Event) →
    length (sounds_handed seat window log es) + 1600 * length log.own
    ≡ 1600 * length (run is_input window log es).own
