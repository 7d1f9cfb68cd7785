-- What the program records. Assumes nothing.
use Rattle.std.proofs.Common.{◌≡◌, ℕ, ◌≤◌, min, List, [], length, drop, sym, ap, ◌∙◌, arith, le-ltb, append-nil}
use Rattle.std.proofs.lemmas.List.{drop_all}
use Rattle.game.specs.declared.seat.Seat.{Seat}
use Rattle.peer.specs.declared.numbers.Peer.{Peer}
use Rattle.peer.specs.Lent.{log_of}
use Rattle.peer.specs.Peers.{Event}
use Rattle.recording.specs.Matches.{Match, match_of, match_bytes, match_length}
use Rattle.recording.specs.Writing.{written_over}
use Rattle.recording.proofs.Whole.{frames_long}
use Rattle.session.specs.Rows.{After, log_after, memory}

-- a recording that just fills what was lent for it
fills : (n : ℕ) (m : Match) (out : List ℕ) → 2000000 ≤ n → length out ≡ match_length (length m.frames) → written_over n m out ≡ match_bytes m
fills n m out long room =
    let d : drop (match_length (length m.frames)) out ≡ [] = drop_all (match_length (length m.frames)) out (omega arith) in
    simp (le-ltb n 2000000 long, le-ltb (length out) (match_length (length m.frames)) (omega arith), d) (append-nil (match_bytes m))

pub recorded : (seat : Seat) (window : ℕ) (es : List Event) (p : Peer) (inputs states out written : List ℕ) → After seat window es (memory p inputs states) → length out ≡ match_length (min p.own p.other) → written ≡ written_over (length inputs) (match_of p.seat p.window (log_of p inputs)) out → written ≡ match_bytes (match_of seat window (log_after window es))
recorded seat window es p inputs states out written a room is =
    let long = a.roomy.inputs_long in
    let frames = frames_long p inputs long in
    let f = fills (length inputs) (match_of p.seat p.window (log_of p inputs)) out long (room ∙ ap match_length (sym frames)) in
    let e1 = a.seat_is in
    let e2 = a.window_is in
    let e3 = a.log_is in
    is ∙ f ∙ ap match_bytes (ap (λ s. match_of s p.window (log_of p inputs)) e1 ∙ ap (λ w. match_of seat w (log_of p inputs)) e2 ∙ ap (match_of seat window) e3)
