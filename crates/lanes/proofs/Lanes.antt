-- A log in lent memory where one row changes. Assumes nothing.
use Rattle.std.proofs.Common.{◌≡◌, ℕ, zero, suc, ◌+◌, ◌*◌, ◌<◌, ◌≤◌, List, [], ◌∷◌, ◌++◌, ltb, cond, max, ◌-◌, map, replicate, length, get_or, take, drop, set, sym, refl, ap, ◌∙◌, inl, inr, arith, zero-add, length-set, length-take, length-drop}
use Rattle.std.specs.Prelude.{◌≢◌}
use Rattle.std.specs.List.{range_with_len}
use Rattle.std.proofs.lemmas.Bool.{cases_lt, cases_eq}
use Rattle.std.proofs.lemmas.Bool.Decides.{nat_tests}
use Rattle.std.proofs.lemmas.List.{length-take-le, length-replicate, get_or-replicate, ext_get_or, length-map, get_or-map, get_or-set_same, get_or-set_other, take_more_set, drop-set-lt, get_or-take, get_or-drop, places}
use Rattle.std.proofs.lemmas.List.FromFn.{length-range_with_len, get_or-range_with_len}
use borrow.Rule.Slice.PartMut.{put_mid}
use Rattle.peer.proofs.Logs.{joined_is, other_put, get_or_put_mid_other}
use Rattle.packet.specs.Wire.{Message}
use Rattle.peer.specs.Peers.{joined}
use Rattle.seats.specs.Peers.{Log, row, frames, with_row, with_message, least, others, predicted_input, predicted_inputs}
use Rattle.seats.proofs.Least.{least_none, length-others, others_met}
use Rattle.lanes.specs.declared.lane.Lane.{Lane}
use Rattle.lanes.specs.Lanes.{place, row_in, log_in}

-- ---- places

pub place_own : (seat : ℕ) → place seat seat ≡ 0
unfolding place
place_own seat = grind (arith, nat_tests)

place_other : (seat j : ℕ) → j ≢ seat → 1 ≤ place seat j
unfolding place
place_other seat j apart = grind (arith, nat_tests)

pub place_apart : (seat i j : ℕ) → i ≢ j → place seat i ≢ place seat j
unfolding place
place_apart seat i j apart = grind (arith, nat_tests)

pub place_within : (seats seat j : ℕ) → seat < seats → j < seats → place seat j < seats
unfolding place
place_within seats seat j h l = grind (arith, nat_tests)

pub row_fits : (seats seat j : ℕ) → seat < seats → j < seats → 1000000 * place seat j + 1000000 ≤ seats * 1000000
row_fits seats seat j h l = let within = place_within seats seat j h l in omega arith

-- ---- rows

many_rows : (seat : ℕ) (counts acked inputs : List ℕ) → length (log_in seat counts acked inputs).rows ≡ length counts
unfolding log_in
many_rows seat counts acked inputs = length-map (range_with_len 0 (length counts)) (row_in seat counts inputs) ∙ length-range_with_len 0 (length counts)

pub row_at : (seat : ℕ) (counts acked inputs : List ℕ) (j : ℕ) → j < length counts → get_or (log_in seat counts acked inputs).rows j [] ≡ row_in seat counts inputs j
unfolding log_in
row_at seat counts acked inputs j h =
    get_or-map (row_in seat counts inputs) (range_with_len 0 (length counts)) j 0 [] (omega (arith, length-range_with_len 0 (length counts)))
    ∙ ap (row_in seat counts inputs) (get_or-range_with_len 0 (length counts) j 0 h ∙ zero-add j)

-- one row is another, and the others are as they were
pub one_row : (seat : ℕ) (counts counts' acked acked' inputs inputs' : List ℕ) (i : ℕ) (xs : List ℕ) → length counts' ≡ length counts → i < length counts → row_in seat counts' inputs' i ≡ xs → ((j : ℕ) → j < length counts → j ≢ i → row_in seat counts' inputs' j ≡ row_in seat counts inputs j) → (log_in seat counts' acked' inputs').rows ≡ set (log_in seat counts acked inputs).rows i xs
one_row seat counts counts' acked acked' inputs inputs' i xs e h new same =
    let rows : List (List ℕ) = (log_in seat counts acked inputs).rows in
    let rows' : List (List ℕ) = (log_in seat counts' acked' inputs').rows in
    let many = many_rows seat counts acked inputs in
    let many' = many_rows seat counts' acked' inputs' in
    ext_get_or [] rows' (set rows i xs) (many' ∙ e ∙ sym (length-set rows i xs ∙ many))
    (λ j l.
    let there : j < length counts = omega (arith, l, many', e) in
    row_at seat counts' acked' inputs' j (omega arith)
    ∙ elim (cases_eq j i) [
      | inl f ↦ ap (row_in seat counts' inputs') f ∙ new ∙ sym (ap (λ n. get_or (set rows i xs) n []) f ∙ get_or-set_same rows i xs [] (omega (arith, many)))
      | inr f ↦ same j there f ∙ sym (get_or-set_other rows i j xs [] f ∙ row_at seat counts acked inputs j there)
    ])

-- one own input more
pub push_row : (seat : ℕ) (counts acked inputs : List ℕ) (c a : ℕ) → c ≡ get_or counts seat 0 → seat < length counts → c < 1000000 → length counts * 1000000 ≤ length inputs →
    (log_in seat (set counts seat (c + 1)) acked (set inputs c a)).rows ≡ set (log_in seat counts acked inputs).rows seat (row_in seat counts inputs seat ++ a ∷ [])
push_row seat counts acked inputs c a e h few long =
    one_row seat counts (set counts seat (c + 1)) acked acked inputs (set inputs c a) seat (row_in seat counts inputs seat ++ a ∷ []) (length-set counts seat (c + 1)) h
    (let z : 1000000 * place seat seat ≡ 0 = omega (arith, place_own seat) in
    ap (λ n. take n (drop (1000000 * place seat seat) (set inputs c a))) (get_or-set_same counts seat (c + 1) 0 h)
    ∙ ap (λ n. take (c + 1) (drop n (set inputs c a))) z
    ∙ take_more_set inputs c a (omega arith)
    ∙ sym (ap (λ n. take (get_or counts seat 0) (drop n inputs) ++ a ∷ []) z ∙ ap (λ n. take n inputs ++ a ∷ []) (sym e)))
    (λ j l apart.
    let one : 1 ≤ place seat j = place_other seat j apart in
    ap (λ n. take n (drop (1000000 * place seat j) (set inputs c a))) (get_or-set_other counts seat j (c + 1) 0 apart)
    ∙ ap (take (get_or counts j 0)) (drop-set-lt (1000000 * place seat j) inputs c a (omega arith)))

-- a part of a list is the same where the list is
part_same : (xs ys : List ℕ) (m n : ℕ) → length xs ≡ length ys → m + n ≤ length xs → ((i : ℕ) → m ≤ i → i < m + n → get_or xs i 0 ≡ get_or ys i 0) → take n (drop m xs) ≡ take n (drop m ys)
part_same xs ys m n e h each =
    let lx : length (take n (drop m xs)) ≡ n = simp (length-take, length-drop) (omega arith) in
    let ly : length (take n (drop m ys)) ≡ n = simp (length-take, length-drop) (omega arith) in
    ext_get_or 0 (take n (drop m xs)) (take n (drop m ys)) (lx ∙ sym ly)
    (λ i l.
    get_or-take n (drop m xs) i 0 (omega (arith, lx))
    ∙ get_or-drop m xs i 0
    ∙ each (m + i) (omega arith) (omega (arith, lx))
    ∙ sym (get_or-take n (drop m ys) i 0 (omega (arith, lx)) ∙ get_or-drop m ys i 0))

-- inputs of another seat written behind those that came
pub join_row : (seat i : ℕ) (counts acked acked' inputs ys : List ℕ) (c : ℕ) → c ≡ get_or counts i 0 → seat < length counts → i < length counts → c + length ys ≤ 1000000 → ((j : ℕ) → get_or counts j 0 ≤ 1000000) → length counts * 1000000 ≤ length inputs →
    (log_in seat (set counts i (c + length ys)) acked' (put_mid (1000000 * place seat i + c) (length ys) inputs ys)).rows ≡ set (log_in seat counts acked inputs).rows i (row_in seat counts inputs i ++ ys)
join_row seat i counts acked acked' inputs ys c e here h few most long =
    let m : ℕ = 1000000 * place seat i in
    let put : List ℕ = put_mid (m + c) (length ys) inputs ys in
    let within : place seat i < length counts = place_within (length counts) seat i here h in
    let len : length put ≡ length inputs = grind (arith, places) in
    one_row seat counts (set counts i (c + length ys)) acked acked' inputs put i (row_in seat counts inputs i ++ ys) (length-set counts i (c + length ys)) h
    (ap (λ n. take n (drop m put)) (get_or-set_same counts i (c + length ys) 0 h)
    ∙ other_put m c (length ys) inputs ys (omega arith)
    ∙ ap (λ n. take n (drop m inputs) ++ ys) e)
    (λ j l apart.
    let other : place seat j < length counts = place_within (length counts) seat j here l in
    let differ : place seat j ≢ place seat i = place_apart seat j i apart in
    ap (λ n. take n (drop (1000000 * place seat j) put)) (get_or-set_other counts i j (c + length ys) 0 apart)
    ∙ part_same put inputs (1000000 * place seat j) (get_or counts j 0) len (omega (arith, most j))
    (λ k p q. get_or_put_mid_other (m + c) (length ys) inputs ys k refl (omega arith) (λ o. omega (arith, differ, most j, o.0, o.1))))

-- the predictions of a frame by the lanes in lent memory
pub lent_predictions : (seat : ℕ) (counts acked inputs : List ℕ) (frame : ℕ) (row : List ℕ) → length row ≡ length counts → ((k : ℕ) → k < length counts → get_or row k 0 ≡ predicted_input (row_in seat counts inputs k) frame) → row ≡ predicted_inputs (log_in seat counts acked inputs).rows frame
lent_predictions seat counts acked inputs frame row len each =
    let rows : List (List ℕ) = (log_in seat counts acked inputs).rows in
    let many : length rows ≡ length counts = many_rows seat counts acked inputs in
    let all : length (predicted_inputs rows frame) ≡ length rows = length-map rows (λ ys. predicted_input ys frame) in
    ext_get_or 0 row (predicted_inputs rows frame) (len ∙ sym (all ∙ many))
    (λ k h.
    let there : k < length counts = omega (arith, len) in
    each k there
    ∙ sym (get_or-map (λ ys. predicted_input ys frame) rows k [] 0 (omega (arith, many)) ∙ ap (λ ys. predicted_input ys frame) (row_at seat counts acked inputs k there)))

-- ---- what is known

-- no more than a lane has room for
pub lanes_few : (lanes : List Lane) (j : ℕ) → get_or (map (λ (lane : Lane). lane.known) lanes) j 0 ≤ 1000000
lanes_few [] j = omega arith
lanes_few (l ∷ ls) zero = l.room
lanes_few (l ∷ ls) (suc j) = lanes_few ls j

-- a row in lent memory is as long as it is counted
row_length : (seat : ℕ) (counts inputs : List ℕ) (j : ℕ) → seat < length counts → j < length counts → get_or counts j 0 ≤ 1000000 → length counts * 1000000 ≤ length inputs → length (row_in seat counts inputs j) ≡ get_or counts j 0
row_length seat counts inputs j h l few long =
    let start : ℕ = 1000000 * place seat j in
    length-take-le (get_or counts j 0) (drop start inputs) (omega (arith, row_fits (length counts) seat j h l, length-drop start inputs))

pub counts_in : (seat : ℕ) (counts acked inputs : List ℕ) → seat < length counts → ((j : ℕ) → get_or counts j 0 ≤ 1000000) → length counts * 1000000 ≤ length inputs → map length (log_in seat counts acked inputs).rows ≡ counts
counts_in seat counts acked inputs h few long =
    let rows : List (List ℕ) = (log_in seat counts acked inputs).rows in
    let many : length rows ≡ length counts = many_rows seat counts acked inputs in
    ext_get_or 0 (map length rows) counts (length-map rows length ∙ many)
    (λ j l.
    let there : j < length counts = omega (arith, l, length-map rows length, many) in
    get_or-map length rows j [] 0 (omega (arith, many))
    ∙ ap length (row_at seat counts acked inputs j there)
    ∙ row_length seat counts inputs j h there (few j) long)

pub own_in : (seat : ℕ) (counts acked inputs : List ℕ) → seat < length counts → get_or counts seat 0 ≤ 1000000 → length counts * 1000000 ≤ length inputs → frames (log_in seat counts acked inputs) ≡ get_or counts seat 0
unfolding log_in
own_in seat counts acked inputs h few long = ap length (row_at seat counts acked inputs seat h) ∙ row_length seat counts inputs seat h h few long

-- the fewest of another seat are no more than a lane has room for
pub others_few : (i : ℕ) (counts : List ℕ) → i < length counts → ((j : ℕ) → get_or counts j 0 ≤ 1000000) → least (others i counts) ≤ 1000000
others_few i counts h few =
    elim (cases_lt 1 (length counts)) [
      | inl two ↦ let met = others_met i counts h two in omega (arith, met.3, few met.0)
      | inr one ↦ omega (arith, least_none (others i counts) (omega (arith, length-others i counts h)))
    ]

-- where nothing is known, every row is empty
pub no_rows : (seat : ℕ) (counts acked inputs : List ℕ) (n : ℕ) → length counts ≡ n → ((j : ℕ) → j < n → get_or counts j 0 ≡ 0) → (log_in seat counts acked inputs).rows ≡ replicate n []
no_rows seat counts acked inputs n e none =
    let rows : List (List ℕ) = (log_in seat counts acked inputs).rows in
    let many : length rows ≡ n = many_rows seat counts acked inputs ∙ e in
    ext_get_or [] rows (replicate n []) (many ∙ sym (length-replicate n []))
    (λ j l.
    let there : j < n = omega (arith, l, many) in
    row_at seat counts acked inputs j (omega (arith, there, e))
    ∙ ap (λ k. take k (drop (1000000 * place seat j) inputs)) (none j there)
    ∙ sym (get_or-replicate n j [] [] there))

-- ---- one input more, and a message

pub push_log : (seat : ℕ) (counts acked inputs : List ℕ) (a : ℕ) → seat < length counts → get_or counts seat 0 < 1000000 → length counts * 1000000 ≤ length inputs → log_in seat (set counts seat (get_or counts seat 0 + 1)) acked (set inputs (get_or counts seat 0) a) ≡ with_row (log_in seat counts acked inputs) seat (row (log_in seat counts acked inputs) seat ++ a ∷ [])
unfolding log_in
push_log seat counts acked inputs a h few long =
    let log : Log = log_in seat counts acked inputs in
    ap (λ (rows : List (List ℕ)). let to : Log = record { seat = seat; rows = rows; acked = acked } in to)
    (push_row seat counts acked inputs (get_or counts seat 0) a refl h few long
    ∙ ap (λ (ys : List ℕ). set log.rows seat (ys ++ a ∷ [])) (sym (row_at seat counts acked inputs seat h)))

pub join_log : (seat i : ℕ) (counts acked inputs : List ℕ) (m : Message) (ys : List ℕ) → seat < length counts → i < length counts → ys ≡ cond (ltb (get_or counts i 0) m.first) [] (drop (get_or counts i 0 - m.first) m.inputs) → get_or counts i 0 + length ys ≤ 1000000 → ((j : ℕ) → get_or counts j 0 ≤ 1000000) → length counts * 1000000 ≤ length inputs →
    log_in seat (set counts i (get_or counts i 0 + length ys)) (set acked i (max (get_or acked i 0) m.ack)) (put_mid (1000000 * place seat i + get_or counts i 0) (length ys) inputs ys) ≡ with_message (log_in seat counts acked inputs) i m
unfolding log_in
join_log seat i counts acked inputs m ys here h new fits few long =
    let n : ℕ = get_or counts i 0 in
    let xs : List ℕ = row_in seat counts inputs i in
    let log : Log = log_in seat counts acked inputs in
    let joins : xs ++ ys ≡ joined (row log i) m =
    ap (λ zs. xs ++ zs) new
    ∙ sym (joined_is xs m n (row_length seat counts inputs i here h (few i) long))
    ∙ ap (λ zs. joined zs m) (sym (row_at seat counts acked inputs i h)) in
    ap (λ (rows : List (List ℕ)). let to : Log = record { seat = seat; rows = rows; acked = set acked i (max (get_or acked i 0) m.ack) } in to)
    (join_row seat i counts acked (set acked i (max (get_or acked i 0) m.ack)) inputs ys n refl here h fits few long ∙ ap (set log.rows i) joins)
