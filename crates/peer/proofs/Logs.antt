-- The log in lent memory, and what is written to it. Assumes nothing.
use Rattle.std.proofs.Common.{◌≡◌, ℕ, ◌+◌, ◌-◌, ◌<◌, ◌≤◌, min, cond, ◌&&◌, ltb, List, [], ◌++◌, length, get_or, take, drop, sym, ap, ◌∙◌, arith, length-drop, length-take}
use borrow.Rule.Slice.PartMut.{put_mid}
use Rattle.std.proofs.lemmas.List.{places, take-take, take_min, drop-take, drop-append-le, length-take-le}
use Rattle.std.proofs.lemmas.Slice.{take-put_mid}
use Rattle.std.proofs.lemmas.Bool.Decides.{nat_tests}
use Rattle.std.proofs.lemmas.Grind.{common_steps}
use Rattle.packet.specs.Wire.{Message}
use Rattle.peer.specs.declared.numbers.Peer.{Peer}
use Rattle.peer.specs.Lent.{Long, log_of}
use Rattle.peer.specs.Peers.{Log, new_log, goes_on, joined}

pub log_same : (x x' y y' : List ℕ) (a a' : ℕ) → x ≡ x' → y ≡ y' → a ≡ a' → ◌≡◌ {A = Log} (record { own = x; other = y; acked = a }) (record { own = x'; other = y'; acked = a' })
log_same x x' y y' a a' e f g = cc

-- without inputs it is the new log
pub log_new : (p : Peer) (inputs : List ℕ) → p.own ≡ 0 → p.other ≡ 0 → p.acked ≡ 0 → log_of p inputs ≡ new_log
unfolding log_of
log_new p inputs e f g = simp (e, f, g)

pub own_long : (p : Peer) (inputs : List ℕ) → Long inputs → length (log_of p inputs).own ≡ p.own
unfolding log_of
own_long p inputs h = let few = p.few.0 in length-take-le p.own inputs (omega arith)

pub other_long : (p : Peer) (inputs : List ℕ) → Long inputs → length (log_of p inputs).other ≡ p.other
unfolding log_of
other_long p inputs h = let few = p.few.1 in length-take-le p.other (drop 1000000 inputs) (simp length-drop (omega arith))

-- whether a tick plays, by the numbers
pub goes_on_is : (p : Peer) (inputs : List ℕ) → Long inputs → goes_on p.window (log_of p inputs) ≡ (ltb p.own 1000000 && ltb p.own (p.other + p.window))
goes_on_is p inputs l =
    ap (λ n. ltb n 1000000 && ltb n (length (log_of p inputs).other + p.window)) (own_long p inputs l)
    ∙ ap (λ m. ltb p.own 1000000 && ltb p.own (m + p.window)) (other_long p inputs l)

-- bytes that are not written to stay
pub get_or_put_mid_other : (a k : ℕ) (xs ys : List ℕ) (i : ℕ) → length ys ≡ k → a + k ≤ length xs → ((a ≤ i) × (i < a + k) → ⊥) → get_or (put_mid a k xs ys) i 0 ≡ get_or xs i 0
get_or_put_mid_other a k xs ys i n h out = grind (arith, places)

-- inputs of the other written behind those that came
pub other_put : (m b k : ℕ) (xs ys : List ℕ) → m + b ≤ length xs → take (b + length ys) (drop m (put_mid (m + b) k xs ys)) ≡ take b (drop m xs) ++ ys
other_put m b k xs ys l =
    let e : length (take (m + b) xs) ≡ m + b = length-take-le (m + b) xs l in
    sym (drop-take m (b + length ys) (put_mid (m + b) k xs ys))
    ∙ ap (drop m) (take-put_mid (m + b) k xs ys (m + (b + length ys)) (omega arith) l)
    ∙ drop-append-le m (take (m + b) xs) ys (omega arith)
    ∙ ap (λ zs. zs ++ ys) (drop-take m b xs)

-- what joins on, by what is new
pub joined_is : (xs : List ℕ) (m : Message) (b : ℕ) → length xs ≡ b → joined xs m ≡ xs ++ cond (ltb b m.first) [] (drop (b - m.first) m.inputs)
unfolding joined
joined_is xs m b e = grind (arith, nat_tests, common_steps)

-- the inputs that a packet has, as a part of the lent memory
pub part_sent : (xs : List ℕ) (own acked to : ℕ) → acked ≤ own → own ≤ length xs → to ≡ min own (acked + 120) → take (to - acked) (drop acked xs) ≡ take 120 (drop acked (take own xs))
part_sent xs own acked to h l e =
    let n : ℕ = own - acked in
    let ys : List ℕ = drop acked xs in
    let zs : List ℕ = drop acked (take own xs) in
    let w : own ≡ acked + n = omega arith in
    let d : zs ≡ take n ys = ap (λ k. drop acked (take k xs)) w ∙ drop-take acked n xs in
    let m : to - acked ≡ min 120 (length zs) = simp (length-drop, length-take) (omega arith) in
    sym (take-take (to - acked) n ys (omega arith)) ∙ ap (take (to - acked)) (sym d) ∙ ap (λ k. take k zs) m ∙ take_min 120 zs
