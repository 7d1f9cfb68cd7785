-- A peer of two seats is a peer at two seats. Assumes nothing.
use Rattle.std.proofs.Common.{◌≡◌, ℕ, zero, suc, ◌-◌, ◌<◌, ◌≤◌, min, Bool, true, false, cond, ◌&&◌, List, [], ◌∷◌, ◌++◌, map, length, get_or, take, Ok, Err, Result, sym, refl, ap, ap₂, ◌∙◌, arith, add-one}
use Rattle.std.proofs.lemmas.List.{get_or_default, take_all, take_more, length-take-le}
use Rattle.game.specs.Plain.{Game as TwoGame, plays as two_plays}
use Rattle.game.specs.declared.seat.Seat.TheVariants.{Left, Right}
use Rattle.game.proofs.Plays.{plays_append}
use Rattle.packet.specs.Wire.{Message, reading}
use Rattle.packet.specs.declared.fault.Fault.{Fault}
use Rattle.peer.specs.Peers.{Event as TwoEvents, Log as TwoLog, filled, goes_on as two_goes_on, heard as two_heard, event as two_event, run as two_run, shows as two_shows, confirmed_at as two_confirmed_at}
use Rattle.seats.specs.Packets.{packet_bytes, packet_of, packet_in}
use Rattle.seats.specs.Peers.{least, with_packet, with_event, with_events, predicted_inputs}
use Rattle.seats.proofs.OnePeer.{predicted_came}
use Rattle.seats.proofs.Plays.{plays_same}
use Rattle.seats.specs.Plain.{inputs_at, plays}
use Rattle.two_seats.specs.Two.{game_of, log_of, event_of, SameBytes, SameEvent, SameEvents, SameStanding}

cond_ap : {A B : Type 0} (f : A → B) (b : Bool) (x y : A) → cond b (f x) (f y) ≡ f (cond b x y)
cond_ap f true x y = refl
cond_ap f false x y = refl

heard_left : (l : TwoLog) (r : Result Message Fault) → with_packet (log_of Left l) (packet_of 1 r) ≡ log_of Left (two_heard l r)
unfolding with_packet
heard_left l (Ok m) = refl
heard_left l (Err f) = refl

heard_right : (l : TwoLog) (r : Result Message Fault) → with_packet (log_of Right l) (packet_of 0 r) ≡ log_of Right (two_heard l r)
unfolding with_packet
heard_right l (Ok m) = refl
heard_right l (Err f) = refl

pub same_event : SameEvent
unfolding with_event two_event packet_in least
same_event fits window Left l (TwoEvents.tick a) =
    cond_ap (log_of Left) (fits a && two_goes_on window l) (record { own = l.own ++ a ∷ []; other = l.other; acked = l.acked }) l
same_event fits window Right l (TwoEvents.tick a) =
    cond_ap (log_of Right) (fits a && two_goes_on window l) (record { own = l.own ++ a ∷ []; other = l.other; acked = l.acked }) l
same_event fits window Left l (TwoEvents.arrival xs) = heard_left l (reading (length l.own) xs)
same_event fits window Right l (TwoEvents.arrival xs) = heard_right l (reading (length l.own) xs)

pub same_events : SameEvents
unfolding with_events two_run
same_events fits window seat l [] = refl
same_events fits window seat l (e ∷ es) =
    ap (λ log. with_events fits window log (map event_of es)) (same_event fits window seat l e) ∙ same_events fits window seat (two_event fits window l e) es

pub same_bytes : SameBytes
unfolding packet_bytes
same_bytes seat m = refl

-- ---- the plain game

pub plays_two : {S : Type 0} (g : TwoGame S) (s : S) (xs ys : List ℕ) (k : ℕ) → k ≤ length xs → k ≤ length ys → plays (game_of g) s (inputs_at (xs ∷ ys ∷ [])) k ≡ two_plays g s (take k xs) (take k ys)
unfolding plays two_plays
plays_two g s xs ys zero p q = refl
plays_two g s xs ys (suc k) p q =
    let ex : take (suc k) xs ≡ take k xs ++ get_or xs k 0 ∷ [] = rw add-one at (take_more xs k 0 (omega arith)) in
    let ey : take (suc k) ys ≡ take k ys ++ get_or ys k 0 ∷ [] = rw add-one at (take_more ys k 0 (omega arith)) in
    let lx = length-take-le k xs (omega arith) in
    let ly = length-take-le k ys (omega arith) in
    ap (λ t. g.frame t (get_or xs k 0) (get_or ys k 0)) (plays_two g s xs ys k (omega arith) (omega arith))
    ∙ plays_append g s (take k xs) (take k ys) (get_or xs k 0 ∷ []) (get_or ys k 0 ∷ []) (omega arith)
    ∙ sym (ap₂ (two_plays g s) ex ey)

-- what is filled in is what is predicted
pub filled_at : (m d : ℕ) (xs : List ℕ) (i : ℕ) → i < m → get_or (filled m d xs) i 0 ≡ get_or xs (min i (length xs - 1)) d
unfolding filled
filled_at zero d xs i h = let no : ⊥ = omega arith in absurd no
filled_at (suc m) d [] zero h = refl
filled_at (suc m) d [] (suc i) h = filled_at m d [] i (omega arith)
filled_at (suc m) d (x ∷ xs) zero h = let e : min 0 (suc (length xs) - 1) ≡ 0 = omega arith in sym (ap (λ n. get_or (x ∷ xs) n d) e)
filled_at (suc m) d (x ∷ []) (suc i) h =
    let e : min (suc i) (1 - 1) ≡ 0 = omega arith in
    filled_at m x [] i (omega arith) ∙ sym (ap (λ n. get_or (x ∷ []) n d) e)
filled_at (suc m) d (x ∷ (y ∷ ys)) (suc i) h =
    let e : min (suc i) (suc (suc (length ys)) - 1) ≡ suc (min i (suc (length ys) - 1)) = omega arith in
    filled_at m x (y ∷ ys) i (omega arith)
    ∙ get_or_default (y ∷ ys) (min i (suc (length ys) - 1)) x d (omega arith)
    ∙ sym (ap (λ n. get_or (x ∷ (y ∷ ys)) n d) e)

pub length_filled : (m d : ℕ) (xs : List ℕ) → length (filled m d xs) ≡ m
unfolding filled
length_filled zero d xs = refl
length_filled (suc m) d [] = ap suc (length_filled m d [])
length_filled (suc m) d (x ∷ xs) = ap suc (length_filled m x xs)

-- the plain game with what two have and predict
shown_two : {S : Type 0} (g : TwoGame S) (xs ys : List ℕ) (n : ℕ) → n ≤ length xs → plays (game_of g) g.start (predicted_inputs (xs ∷ ys ∷ [])) n ≡ two_plays g g.start (take n xs) (filled n 0 ys)
shown_two g xs ys n h =
    let zs : List ℕ = filled n 0 ys in
    let len = length_filled n 0 ys in
    plays_same (game_of g) g.start (predicted_inputs (xs ∷ ys ∷ [])) (inputs_at (xs ∷ zs ∷ [])) n
    (λ i l. ap₂ (λ a b. a ∷ b ∷ []) (predicted_came xs i (omega arith)) (sym (filled_at n 0 ys i l)))
    ∙ plays_two g g.start xs zs n h (omega arith)
    ∙ ap (two_plays g g.start (take n xs)) (take_all n zs (omega arith))

shown_two_right : {S : Type 0} (g : TwoGame S) (xs ys : List ℕ) (n : ℕ) → n ≤ length ys → plays (game_of g) g.start (predicted_inputs (xs ∷ ys ∷ [])) n ≡ two_plays g g.start (filled n 0 xs) (take n ys)
shown_two_right g xs ys n h =
    let zs : List ℕ = filled n 0 xs in
    let len = length_filled n 0 xs in
    plays_same (game_of g) g.start (predicted_inputs (xs ∷ ys ∷ [])) (inputs_at (zs ∷ ys ∷ [])) n
    (λ i l. ap₂ (λ a b. a ∷ b ∷ []) (sym (filled_at n 0 xs i l)) (predicted_came ys i (omega arith)))
    ∙ plays_two g g.start zs ys n (omega arith) h
    ∙ ap (λ ws. two_plays g g.start ws (take n ys)) (take_all n zs (omega arith))

pub same_standing : (S : Type 0) → SameStanding S
unfolding least two_shows two_confirmed_at
same_standing S g Left l =
    let n : ℕ = length l.own in (
      omega arith,
      shown_two g l.own l.other n (omega arith) ∙ ap (λ zs. two_plays g g.start zs (filled n 0 l.other)) (take_all n l.own (omega arith)),
      λ k h. plays_two g g.start l.own l.other k (omega arith) (omega arith),
      refl,
    )
same_standing S g Right l =
    let n : ℕ = length l.own in (
      omega arith,
      shown_two_right g l.other l.own n (omega arith) ∙ ap (two_plays g g.start (filled n 0 l.other)) (take_all n l.own (omega arith)),
      λ k h. plays_two g g.start l.other l.own k (omega arith) (omega arith),
      refl,
    )
