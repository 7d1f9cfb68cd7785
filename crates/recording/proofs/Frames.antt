-- Frames in bytes, and the states after every 600th. Assumes nothing.
use Rattle.std.proofs.Common.{◌≡◌, ℕ, zero, suc, ◌+◌, ◌*◌, min, List, [], ◌∷◌, ◌++◌, map, length, set, take, drop, sym, refl, ap, ◌∙◌, add-one, arith, length-append}
use Rattle.std.proofs.Math.Seq.{take-add}
use Rattle.std.proofs.lemmas.List.{append_assoc, append-nil, nil_from_length, take_all, take_more_set, length-map, map-append, take-take}
use Rattle.court_game.specs.Snapshots.{state_bytes}
use Rattle.court_game.specs.Sounding.{SoundingCourt, sounding_game, sounding_start}
use Rattle.game.specs.Plain.{plays, seat_0, seat_1}
use Rattle.game.proofs.Plays.{plays_append}
use Rattle.game.specs.declared.seat.Seat.{Seat}
use Rattle.game.specs.declared.seat.Seat.TheVariants.{Left, Right}
use Rattle.game.specs.Seats.{in_order}
use Rattle.peer.specs.declared.numbers.Peer.{Peer}
use Rattle.peer.specs.Lent.{Long, log_of}
use Rattle.peer.proofs.Logs.{own_long, other_long}
use Rattle.recording.specs.Matches.{frame_byte, frame_bytes, match_of, sounding_after, marks}

-- ---- frames

-- a frame more is written, of those that are left
pub put_next : (fs xs ys xs_next ys_next all : List ℕ) (k a b : ℕ) → k + length xs ≡ length fs → xs ≡ a ∷ xs_next → ys ≡ b ∷ ys_next → take k fs ++ frame_bytes xs ys ≡ all → take (k + 1) (set fs k (frame_byte a b)) ++ frame_bytes xs_next ys_next ≡ all
unfolding frame_bytes
put_next fs xs ys xs_next ys_next all k a b n e f h =
    let m = ap length e in
    ap (λ zs. zs ++ frame_bytes xs_next ys_next) (take_more_set fs k (frame_byte a b) (omega arith))
    ∙ append_assoc (take k fs) (frame_byte a b ∷ []) (frame_bytes xs_next ys_next)
    ∙ sym (ap (λ zs. take k fs ++ frame_bytes zs ys) e ∙ ap (λ zs. take k fs ++ frame_bytes (a ∷ xs_next) zs) f)
    ∙ h

-- none is left
pub put_last : (fs xs ys all : List ℕ) (k : ℕ) → k + length xs ≡ length fs → length xs ≡ 0 → take k fs ++ frame_bytes xs ys ≡ all → fs ≡ all
unfolding frame_bytes
put_last fs xs ys all k n e h =
    sym (append-nil fs)
    ∙ ap (λ zs. zs ++ []) (sym (take_all k fs (omega arith)))
    ∙ ap (λ zs. take k fs ++ frame_bytes zs ys) (sym (nil_from_length xs e))
    ∙ h

pub length_frames : (xs ys : List ℕ) → length (frame_bytes xs ys) ≡ min (length xs) (length ys)
unfolding frame_bytes
length_frames [] ys = omega arith
length_frames (x ∷ xs) [] = omega arith
length_frames (x ∷ xs) (y ∷ ys) = let e = length_frames xs ys in omega arith

-- the first frames are those of the first inputs
pub take_frames : (xs ys : List ℕ) (k : ℕ) → take k (frame_bytes xs ys) ≡ frame_bytes (take k xs) (take k ys)
unfolding frame_bytes
take_frames xs ys zero = refl
take_frames [] ys (suc k) = refl
take_frames (x ∷ xs) [] (suc k) = refl
take_frames (x ∷ xs) (y ∷ ys) (suc k) = ap (λ zs. frame_byte x y ∷ zs) (take_frames xs ys k)

-- ---- states

-- some frames more
after_more : (fs gs : List ℕ) → sounding_after (fs ++ gs) ≡ plays sounding_game (sounding_after fs) (map seat_0 gs) (map seat_1 gs)
after_more fs gs =
    ap (λ zs. plays sounding_game sounding_start zs (map seat_1 (fs ++ gs))) (map-append seat_0 fs gs)
    ∙ ap (plays sounding_game sounding_start (map seat_0 fs ++ map seat_0 gs)) (map-append seat_1 fs gs)
    ∙ sym (plays_append sounding_game sounding_start (map seat_0 fs) (map seat_1 fs) (map seat_0 gs) (map seat_1 gs) (length-map fs seat_0 ∙ sym (length-map fs seat_1)))

-- up to a place, and on from there
pub after_on : (fs : List ℕ) (k n m : ℕ) → k + n ≡ m → sounding_after (take m fs) ≡ plays sounding_game (sounding_after (take k fs)) (map seat_0 (take n (drop k fs))) (map seat_1 (take n (drop k fs)))
after_on fs k n m e =
    ap (λ i. sounding_after (take i fs)) (sym e) ∙ ap sounding_after (take-add k n fs) ∙ after_more (take k fs) (take n (drop k fs))

-- on to the next saved state, with the 600 frames from the last one on
pub after_part : (fs next : List ℕ) (j k : ℕ) (s t : SoundingCourt) → k ≡ 600 → next ≡ take k (drop (600 * j) fs) → s ≡ sounding_after (take (600 * j) fs) → t ≡ plays sounding_game s (map seat_0 next) (map seat_1 next) → t ≡ sounding_after (take (600 * (j + 1)) fs)
after_part fs next j k s t six part-is before is =
    is
    ∙ ap (λ u. plays sounding_game u (map seat_0 next) (map seat_1 next)) before
    ∙ ap (λ zs. plays sounding_game (sounding_after (take (600 * j) fs)) (map seat_0 zs) (map seat_1 zs)) part-is
    ∙ sym (after_on fs (600 * j) k (600 * (j + 1)) (omega arith))

-- one saved state more
pub marks_more : (fs : List ℕ) (j : ℕ) → marks fs (j + 1) ≡ marks fs j ++ state_bytes (sounding_after (take (600 * (j + 1)) fs))
unfolding marks
marks_more fs j = rw add-one refl

pub length_marks : (fs : List ℕ) (m : ℕ) → length (marks fs m) ≡ 64 * m
unfolding marks
length_marks fs zero = refl
length_marks fs (suc m) =
    let e = length_marks fs m in
    let s = state_bytes (sounding_after (take (600 * suc m) fs)) in
    let l : length s ≡ 64 = refl in
    omega (arith, length-append (marks fs m) s)

-- frames as far as both seats have inputs
pub frames_min : (xs ys : List ℕ) (n : ℕ) → n ≡ min (length xs) (length ys) → frame_bytes (take n xs) (take n ys) ≡ frame_bytes xs ys
frames_min xs ys n e = sym (take_frames xs ys n) ∙ take_all n (frame_bytes xs ys) (omega (arith, length_frames xs ys))

-- ---- a peer's frames

-- frames as far as both seats have inputs, in the seats' order
ordered_min : (seat : Seat) (xs ys : List ℕ) (n : ℕ) → n ≡ min (length xs) (length ys) → (let cut = in_order seat (take n xs) (take n ys) in let whole = in_order seat xs ys in frame_bytes cut.0 cut.1 ≡ frame_bytes whole.0 whole.1)
ordered_min Left xs ys n e = frames_min xs ys n e
ordered_min Right xs ys n e = frames_min ys xs n (omega arith)

-- the parts of the lent inputs that are confirmed are those of the log
pub confirmed_frames : (p : Peer) (inputs : List ℕ) (r : List ℕ × List ℕ) (n : ℕ) → Long inputs → n ≡ min p.own p.other → r ≡ in_order p.seat (take n (take 1000000 inputs)) (take n (drop 1000000 inputs)) → frame_bytes r.0 r.1 ≡ (match_of p.seat p.window (log_of p inputs)).frames
unfolding log_of
confirmed_frames p inputs r n l e f =
    let a = own_long p inputs l in
    let b = other_long p inputs l in
    let few = p.few in
    let xs : List ℕ = take p.own inputs in
    let ys : List ℕ = take p.other (drop 1000000 inputs) in
    let own : take n (take 1000000 inputs) ≡ take n xs = take-take n 1000000 inputs (omega arith) ∙ sym (take-take n p.own inputs (omega arith)) in
    let other : take n (drop 1000000 inputs) ≡ take n ys = sym (take-take n p.other (drop 1000000 inputs) (omega arith)) in
    ap (λ (x : List ℕ × List ℕ). frame_bytes x.0 x.1) (f ∙ ap (λ zs. in_order p.seat zs (take n (drop 1000000 inputs))) own ∙ ap (in_order p.seat (take n xs)) other) ∙ ordered_min p.seat xs ys n (omega arith)
