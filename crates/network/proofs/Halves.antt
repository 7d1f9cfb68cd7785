-- A peer and the packets written to it, beside the peer that wrote them: what every turn keeps. Assumes nothing.
use Rattle.std.proofs.Common.{◌≡◌, ℕ, ◌+◌, ◌-◌, ◌≤◌, min, max, Bool, true, ltb, leb, List, [], ◌∷◌, ◌++◌, length, drop, Ok, sym, refl, subst, arith, length-append, length-drop, length-take}
use Rattle.std.specs.List.{AllByRecursion}
use Rattle.std.proofs.ByRecursion.{All-push, All-take, All-drop, All-weaker}
use Rattle.std.proofs.lemmas.List.{length_push}
use Rattle.std.proofs.lemmas.Bool.{cond_both, and_from, le-leb, ltb-false}
use Rattle.std.proofs.lemmas.Bool.Decides.{nat_tests}
use Rattle.packet.specs.Inputs.{inputs_fit}
use Rattle.packet.specs.Wire.{Message, Proper, message_bytes, reading}
use Rattle.packet.proofs.Readings.{written_read}
use Rattle.peer.specs.Peers.{Log, tick, arrival, joined, heard, event}
use Rattle.network.specs.Network.{written}
use Rattle.network.specs.Promise.{Begins, Narrow}
use Rattle.network.proofs.Beginnings.{begins_trans, begins_length, begins_drop, begins_join, take_begins}
use Rattle.network.proofs.OnePeer.{Grows, by_tick, joined_grows}

-- ---- inputs of a packet that join on

joined_begins : (own xs : List ℕ) (m : Message) → Begins xs own → Begins m.inputs (drop m.first own) → Begins (joined xs m) own
unfolding joined
joined_begins own xs m p q =
    cond_both (ltb (length xs) m.first) xs (xs ++ drop (length xs - m.first) m.inputs) (λ r. Begins r own) (λ _. p)
    (λ e. begins_join own xs m.inputs m.first p q (ltb-false (length xs) m.first e))

-- how many there are then, at most and at least
joined_most : (xs : List ℕ) (m : Message) (c : ℕ) → length xs ≤ c → m.first + length m.inputs ≤ c → length (joined xs m) ≤ c
unfolding joined
joined_most xs m c p q = grind (arith, nat_tests, length-append, length-drop)

pub joined_least : (xs : List ℕ) (m : Message) → m.first ≤ length xs → m.first + length m.inputs ≤ length (joined xs m)
unfolding joined
joined_least xs m h = grind (arith, nat_tests, length-append, length-drop)

-- ---- packets that a peer may have written

-- a part of its own inputs; it acknowledges no more than the peer has, and its inputs are within the window of that
pub record Fair (window : ℕ) (log : Log) (m : Message) : Type 0 where
  pub part : Begins m.inputs (drop m.first log.own)
  pub made : m.first + length m.inputs ≤ length log.own
  pub few : length m.inputs ≤ 120
  pub fit : AllByRecursion (λ a. a ≤ 15) m.inputs
  pub known : m.ack ≤ length log.other
  pub near : m.first + length m.inputs ≤ m.ack + window

pub written_length : (log : Log) (from n : ℕ) → length (written log from n).inputs ≡ min (min n 120) (length log.own - min from (length log.own))
unfolding written
written_length log from n = simp (length-take, length-drop)

-- ---- one half of a network

-- `me` has a beginning of the inputs that `you` made, and each has acknowledged what it has; the numbers are near each other
pub record Half (window : ℕ) (me you : Log) (ms : List Message) : Type 0 where
  pub begins : Begins me.other you.own
  pub near : length me.own ≤ length me.other + window
  pub heard : length me.other ≤ me.acked + window
  pub known : me.acked ≤ length you.other
  pub fit : AllByRecursion (λ a. a ≤ 15) me.own
  pub few : length me.own ≤ 1000000
  pub packets : AllByRecursion (Fair window you) ms

all_fit : (xs : List ℕ) → AllByRecursion (λ a. a ≤ 15) xs → inputs_fit xs ≡ true
all_fit [] h = refl
all_fit (x ∷ xs) h = and_from (leb x 15) (inputs_fit xs) (le-leb x 15 h.0) (all_fit xs h.1)

module _ (window : ℕ) where
  fair_grows : (log to : Log) → Grows log to → (m : Message) → Fair window log m → Fair window to m
  fair_grows log to g m f =
      record {
        part = begins_trans m.inputs (drop m.first log.own) (drop m.first to.own) f.part (begins_drop m.first log.own to.own g.own);
        made = omega (arith, begins_length log.own to.own g.own);
        few = f.few;
        fit = f.fit;
        known = omega (arith, begins_length log.other to.other g.other);
        near = f.near;
      }

  pub fair_written : (log : Log) (from n : ℕ) → length log.own ≤ length log.other + window → AllByRecursion (λ a. a ≤ 15) log.own → Fair window log (written log from n)
  unfolding written
  fair_written log from n near fit =
      let k : ℕ = min from (length log.own) in
      let len = written_length log from n in
      record {
        part = take_begins (min n 120) (drop k log.own);
        made = omega arith;
        few = omega arith;
        fit = All-take (λ a. a ≤ 15) (min n 120) (drop k log.own) (All-drop (λ a. a ≤ 15) k log.own fit);
        known = omega arith;
        near = omega arith;
      }

  -- `you` goes on
  pub half_beside : (me you to : Log) (ms : List Message) → Grows you to → Half window me you ms → Half window me to ms
  half_beside me you to ms g h =
      record {
        begins = begins_trans me.other you.own to.own h.begins g.own;
        near = h.near;
        heard = h.heard;
        known = omega (arith, begins_length you.other to.other g.other);
        fit = h.fit;
        few = h.few;
        packets = All-weaker (Fair window you) (Fair window to) (fair_grows you to g) ms h.packets;
      }

  -- `you` writes a packet
  pub half_packet : (me you : Log) (ms : List Message) (m : Message) → Fair window you m → Half window me you ms → Half window me you (ms ++ m ∷ [])
  half_packet me you ms m f h =
      record {
        begins = h.begins;
        near = h.near;
        heard = h.heard;
        known = h.known;
        fit = h.fit;
        few = h.few;
        packets = All-push (Fair window you) ms m h.packets f;
      }

  -- a frame's time at `me`
  pub half_tick : (fits : ℕ → Bool) (me you : Log) (ms : List Message) (a : ℕ) → Narrow fits → Half window me you ms → Half window (event fits window me (tick a)) you ms
  half_tick fits me you ms a narrow h =
      by_tick fits window me a (λ to. Half window to you ms) h
      (λ ok few near. record {
        begins = h.begins;
        near = omega (arith, length_push me.own a);
        heard = h.heard;
        known = h.known;
        fit = All-push (λ b. b ≤ 15) me.own a h.fit (narrow a ok);
        few = omega (arith, length_push me.own a);
        packets = h.packets;
      })

  -- what `you` wrote is read as it was written
  pub taken : (me you : Log) (ms back : List Message) → Half window me you ms → Half window you me back → (m : Message) → Fair window you m → reading (length me.own) (message_bytes m) ≡ Ok m
  taken me you ms back h b m f =
      let mine : length you.other ≤ length me.own = begins_length you.other me.own b.begins in
      let proper : Proper (length me.own) m =
      record { few = f.few; whole = omega (arith, b.few, f.made); fit = all_fit m.inputs f.fit; known = omega (arith, f.known) } in
      written_read (length me.own) m (omega (arith, h.few)) proper

  -- and comes to `me`
  pub half_arrival : (fits : ℕ → Bool) (me you : Log) (ms back : List Message) → Half window me you ms → Half window you me back → (m : Message) → Fair window you m → Half window (event fits window me (arrival (message_bytes m))) you ms
  unfolding event
  half_arrival fits me you ms back h b m f =
      subst (λ r. Half window (heard me r) you ms) (sym (taken me you ms back h b m f))
      (record {
        begins = joined_begins you.own me.other m h.begins f.part;
        near = omega (arith, h.near, begins_length me.other (joined me.other m) (joined_grows me.other m));
        heard = joined_most me.other m (max me.acked m.ack + window) (omega (arith, h.heard)) (omega (arith, f.near));
        known = omega (arith, h.known, f.known);
        fit = h.fit;
        few = h.few;
        packets = h.packets;
      })
