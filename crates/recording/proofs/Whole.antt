-- A recording as it is written, part by part. Assumes nothing.
use Rattle.std.proofs.Common.{Bor, ◌≡◌, ℕ, ◌+◌, ◌*◌, ◌/◌, min, List, ◌∷◌, ◌++◌, length, drop, sym, ap, ◌∙◌, arith}
use Rattle.std.proofs.lemmas.List.{append_assoc, drop-drop}
use Rattle.byte_numbers.specs.Little.{little}
use Rattle.game.specs.declared.seat.Seat.{Seat}
use Rattle.game.specs.declared.seat.Seat.TheVariants.{Left, Right}
use Rattle.game.specs.Seats.{in_order}
use Rattle.peer.specs.declared.numbers.Peer.{Peer}
use Rattle.peer.specs.Lent.{Long, log_of}
use Rattle.peer.specs.Peers.{Log, confirmed}
use Rattle.peer.proofs.Logs.{own_long, other_long}
use Rattle.recording.specs.Matches.{Match, marks, match_of, match_bytes, match_length}
use Rattle.recording.proofs.Frames.{length_frames}

-- the header, the frames and the states, one after the other, and what lay behind them
pub written_whole : (xs head frames states : List ℕ) (m : Match) (n : ℕ) → length m.frames ≡ n → head ≡ 82 ∷ (69 ∷ (67 ∷ (m.window ∷ little 4 n))) → frames ≡ m.frames → (let k : ℕ = length frames / 600 in states ≡ marks frames k ++ drop (64 * k) (drop n (drop 8 xs))) → head ++ (frames ++ states) ≡ match_bytes m ++ drop (match_length n) xs
written_whole xs head frames states m n long e f g =
    let k : ℕ = length frames / 600 in
    let hd : List ℕ = 82 ∷ (69 ∷ (67 ∷ (m.window ∷ little 4 (length m.frames)))) in
    let tail : List ℕ = drop (match_length n) xs in
    let same : length frames ≡ n = ap length f ∙ long in
    let end : 8 + (n + 64 * k) ≡ match_length n = ap (λ i. 8 + (n + 64 * (i / 600))) same ∙ (omega arith) in
    let rest : drop (64 * k) (drop n (drop 8 xs)) ≡ tail =
    drop-drop (64 * k) n (drop 8 xs) ∙ drop-drop (n + 64 * k) 8 xs ∙ ap (λ i. drop i xs) end in
    ap (λ zs. zs ++ (frames ++ states)) (e ∙ ap (λ i. 82 ∷ (69 ∷ (67 ∷ (m.window ∷ little 4 i)))) (sym long))
    ∙ ap (λ zs. hd ++ (frames ++ zs)) (g ∙ ap (λ r. marks frames k ++ r) rest)
    ∙ ap (λ (zs : List ℕ). hd ++ (zs ++ (marks zs (length zs / 600) ++ tail))) f
    ∙ simp append_assoc

-- how many frames a match has
pub frames_by : (seat : Seat) (window : ℕ) (log : Log) → length (match_of seat window log).frames ≡ confirmed log
frames_by Left window log = length_frames log.own log.other
frames_by Right window log = omega (arith, length_frames log.other log.own)

pub confirmed_is : (p : Peer) (inputs : List ℕ) → Long inputs → confirmed (log_of p inputs) ≡ min p.own p.other
confirmed_is p inputs l =
    ap (λ n. min n (length (log_of p inputs).other)) (own_long p inputs l) ∙ ap (min p.own) (other_long p inputs l)

pub frames_long : (p : Peer) (inputs : List ℕ) → Long inputs → length (match_of p.seat p.window (log_of p inputs)).frames ≡ min p.own p.other
frames_long p inputs l = frames_by p.seat p.window (log_of p inputs) ∙ confirmed_is p inputs l

-- ---- slices in the seats' order

-- what is lent, and how long it is
pub ordered_now : (seat : Seat) (own other : Bor (List ℕ)) (r : Bor (List ℕ) × Bor (List ℕ)) → r ≡ in_order seat own other → (r.0.now, r.1.now) ≡ in_order seat own.now other.now
ordered_now Left own other r e = ap (λ (x : Bor (List ℕ) × Bor (List ℕ)). (x.0.now, x.1.now)) e
ordered_now Right own other r e = ap (λ (x : Bor (List ℕ) × Bor (List ℕ)). (x.0.now, x.1.now)) e

pub ordered_long : (seat : Seat) (own other : List ℕ) (r : List ℕ × List ℕ) (n : ℕ) → r ≡ in_order seat own other → length own ≡ n → length other ≡ n → (length r.0 ≡ n) × (length r.1 ≡ n)
ordered_long Left own other r n e f g = (ap (λ (x : List ℕ × List ℕ). length x.0) e ∙ f, ap (λ (x : List ℕ × List ℕ). length x.1) e ∙ g)
ordered_long Right own other r n e f g = (ap (λ (x : List ℕ × List ℕ). length x.0) e ∙ g, ap (λ (x : List ℕ × List ℕ). length x.1) e ∙ f)
