-- Of several faults the one at the lowest place is told. Assumes nothing.
use Rattle.std.proofs.Common.{◌≡◌, ℕ, ◌+◌, ◌-◌, ◌<◌, ◌≤◌, min, true, false, ltb, ◌⊎◌, List, length, get_or, drop, Ok, Err, Result, refl, ap, ◌∙◌, inl, inr, zero-le, arith, length-drop, length-take, get_or-drop, get_or-take, MatchResult}
use Rattle.std.proofs.lemmas.Bool.Decides.{nat_tests}
use Rattle.std.proofs.lemmas.List.Sums.{fails_before_first, passes_at_first}
use Rattle.packet.specs.declared.fault.Fault.{Fault}
use Rattle.packet.specs.declared.fault.Fault.TheVariants.{NoMark, CutShort, TooLong, TooMany, BadInput, PastEnd, Unmade}
use Rattle.packet.specs.Inputs.{first_bad}
use Rattle.packet.specs.Wire.{first_in, count_in, ack_in, inputs_in, start_checked, rest_checked, reading, fault_place, Faulty, LowestTold}
use Rattle.packet.proofs.Checks.{Started, Ended, started, ended}

-- ---- the first byte that is no input

pub fit_below : (ys : List ℕ) (k : ℕ) → k < first_bad ys → get_or ys k 0 ≤ 15
fit_below ys k h =
    let t : ltb 15 (get_or ys k 0) ≡ false = fails_before_first (ltb 15) ys k 0 h in
    grind (arith, nat_tests)

pub bad_there : (ys : List ℕ) → first_bad ys < length ys → 15 < get_or ys (first_bad ys) 0
bad_there ys h =
    let t : ltb 15 (get_or ys (first_bad ys) 0) ≡ true = passes_at_first (ltb 15) ys 0 h in
    grind (arith, nat_tests)

-- an input by its place in the packet
input_at : (xs : List ℕ) (at : ℕ) → 10 ≤ at → at < 10 + count_in xs → get_or (inputs_in xs) (at - 10) 0 ≡ get_or xs at 0
input_at xs at h k =
    let i : 10 + (at - 10) ≡ at = omega arith in
    get_or-take (count_in xs) (drop 10 xs) (at - 10) 0 (omega arith) ∙ get_or-drop 10 xs (at - 10) 0 ∙ ap (λ j. get_or xs j 0) i

length_inputs : (xs : List ℕ) → length (inputs_in xs) ≡ min (count_in xs) (length xs - 10)
length_inputs xs = simp (length-take, length-drop)

-- ---- a fault by numbers alone, at a place

Means : ℕ → List ℕ → ℕ → Type 0
Means own xs p =
    ((p ≡ 0) × (0 < length xs) × (get_or xs 0 0 ≡ 72 → ⊥))
    ⊎ ((p ≡ length xs) × (length xs < 10))
    ⊎ ((p ≡ length xs) × (length xs < 10 + count_in xs))
    ⊎ ((10 ≤ length xs) × (p ≡ 10 + count_in xs) × (p < length xs))
    ⊎ ((p ≡ 5) × (6 ≤ length xs) × (120 < count_in xs))
    ⊎ ((10 + first_bad (inputs_in xs) ≤ p) × (first_bad (inputs_in xs) < length (inputs_in xs)) × (10 ≤ length xs))
    ⊎ ((p ≡ 1) × (6 ≤ length xs) × (1000000 < first_in xs + count_in xs))
    ⊎ ((p ≡ 6) × (10 ≤ length xs) × (own < ack_in xs))

means : (own : ℕ) (xs : List ℕ) (f : Fault) → Faulty own xs f → Means own xs (fault_place f)
unfolding Means
means own xs NoMark h = inl (refl, h.0, h.1)
means own xs (CutShort at) h = elim h.1 [ inl k ↦ inr (inl (h.0, k)) | inr k ↦ inr (inr (inl (h.0, k))) ]
means own xs (TooLong at) h = inr (inr (inr (inl h)))
means own xs TooMany h = inr (inr (inr (inr (inl (refl, h.0, h.1)))))
means own xs (BadInput at) h =
    let n = length_inputs xs in
    let e = input_at xs at h.0 h.2 in
    let below : at - 10 < first_bad (inputs_in xs) → get_or (inputs_in xs) (at - 10) 0 ≤ 15 = fit_below (inputs_in xs) (at - 10) in
    let first : first_bad (inputs_in xs) ≤ at - 10 = grind (arith, h.3) in
    inr (inr (inr (inr (inr (inl (omega arith, omega arith, omega arith))))))
means own xs PastEnd h = inr (inr (inr (inr (inr (inr (inl (refl, h.0, h.1)))))))
means own xs Unmade h = inr (inr (inr (inr (inr (inr (inr (refl, h.0, h.1)))))))

-- ---- a fault of the first six bytes

StartTold : List ℕ → Fault → Type 0
StartTold xs NoMark = (0 < length xs) × (get_or xs 0 0 ≡ 72 → ⊥)
StartTold xs (CutShort at) = (at ≡ length xs) × (length xs < 6) × ((length xs ≡ 0) ⊎ (get_or xs 0 0 ≡ 72))
StartTold xs (TooLong at) = ⊥
StartTold xs TooMany = (6 ≤ length xs) × (120 < count_in xs) × (get_or xs 0 0 ≡ 72) × (first_in xs + count_in xs ≤ 1000000)
StartTold xs (BadInput at) = ⊥
StartTold xs PastEnd = (6 ≤ length xs) × (1000000 < first_in xs + count_in xs) × (get_or xs 0 0 ≡ 72)
StartTold xs Unmade = ⊥

start_told : (xs : List ℕ) (f : Fault) → start_checked xs ≡ Err f → StartTold xs f
unfolding start_checked StartTold
start_told xs NoMark e = (grind (arith, nat_tests), grind (arith, nat_tests))
start_told xs (CutShort at) e = (grind (arith, nat_tests), grind (arith, nat_tests), grind (arith, nat_tests))
start_told xs (TooLong at) e = grind (arith, nat_tests)
start_told xs TooMany e = (grind (arith, nat_tests), grind (arith, nat_tests), grind (arith, nat_tests), grind (arith, nat_tests))
start_told xs (BadInput at) e = grind (arith, nat_tests)
start_told xs PastEnd e = (grind (arith, nat_tests), grind (arith, nat_tests), grind (arith, nat_tests))
start_told xs Unmade e = grind (arith, nat_tests)

start_lowest : (own : ℕ) (xs : List ℕ) (f : Fault) (p : ℕ) → StartTold xs f → Means own xs p → fault_place f ≤ p
unfolding StartTold Means
start_lowest own xs NoMark p h m = zero-le
start_lowest own xs (CutShort at) p h m = omega arith
start_lowest own xs (TooLong at) p h m = absurd h
start_lowest own xs TooMany p h m = omega arith
start_lowest own xs (BadInput at) p h m = absurd h
start_lowest own xs PastEnd p h m = omega arith
start_lowest own xs Unmade p h m = absurd h

start_faulty : (own : ℕ) (xs : List ℕ) (f : Fault) → StartTold xs f → Faulty own xs f
unfolding StartTold
start_faulty own xs NoMark h = h
start_faulty own xs (CutShort at) h = (h.0, inl (omega arith))
start_faulty own xs (TooLong at) h = absurd h
start_faulty own xs TooMany h = (h.0, h.1)
start_faulty own xs (BadInput at) h = absurd h
start_faulty own xs PastEnd h = (h.0, h.1)
start_faulty own xs Unmade h = absurd h

-- ---- a fault of the others, behind a start that is right

RestTold : ℕ → List ℕ → Fault → Type 0
RestTold own xs NoMark = ⊥
RestTold own xs (CutShort at) =
    (at ≡ length xs)
    × ((length xs < 10) ⊎ ((ack_in xs ≤ own) × (length (inputs_in xs) ≤ first_bad (inputs_in xs)) × (10 ≤ length xs) × (length xs < 10 + count_in xs)))
RestTold own xs (TooLong at) =
    (at ≡ 10 + count_in xs) × (at < length xs) × (ack_in xs ≤ own) × (length (inputs_in xs) ≤ first_bad (inputs_in xs))
RestTold own xs TooMany = ⊥
RestTold own xs (BadInput at) =
    (at ≡ 10 + first_bad (inputs_in xs)) × (first_bad (inputs_in xs) < length (inputs_in xs)) × (ack_in xs ≤ own) × (10 ≤ length xs)
RestTold own xs PastEnd = ⊥
RestTold own xs Unmade = (10 ≤ length xs) × (own < ack_in xs)

rest_told : (own : ℕ) (xs : List ℕ) (f : Fault) → rest_checked own xs ≡ Err f → RestTold own xs f
unfolding rest_checked RestTold
rest_told own xs NoMark e = grind (arith, nat_tests)
rest_told own xs (CutShort at) e = (grind (arith, nat_tests), grind (arith, nat_tests))
rest_told own xs (TooLong at) e = (grind (arith, nat_tests), grind (arith, nat_tests), grind (arith, nat_tests), grind (arith, nat_tests))
rest_told own xs TooMany e = grind (arith, nat_tests)
rest_told own xs (BadInput at) e = (grind (arith, nat_tests), grind (arith, nat_tests), grind (arith, nat_tests), grind (arith, nat_tests))
rest_told own xs PastEnd e = grind (arith, nat_tests)
rest_told own xs Unmade e = (grind (arith, nat_tests), grind (arith, nat_tests))

rest_lowest : (own : ℕ) (xs : List ℕ) (f : Fault) (p : ℕ) → Started xs → RestTold own xs f → Means own xs p → fault_place f ≤ p
unfolding RestTold Means
rest_lowest own xs NoMark p s h m = absurd h
rest_lowest own xs (CutShort at) p s h m = let n = length_inputs xs in omega arith
rest_lowest own xs (TooLong at) p s h m = let n = length_inputs xs in omega arith
rest_lowest own xs TooMany p s h m = absurd h
rest_lowest own xs (BadInput at) p s h m = let n = length_inputs xs in omega arith
rest_lowest own xs PastEnd p s h m = absurd h
rest_lowest own xs Unmade p s h m = let n = length_inputs xs in omega arith

rest_faulty : (own : ℕ) (xs : List ℕ) (f : Fault) → RestTold own xs f → Faulty own xs f
unfolding RestTold
rest_faulty own xs NoMark h = absurd h
rest_faulty own xs (CutShort at) h = (h.0, elim h.1 [ inl k ↦ inl k | inr k ↦ inr k.3 ])
rest_faulty own xs (TooLong at) h = (omega arith, h.0, h.1)
rest_faulty own xs TooMany h = absurd h
rest_faulty own xs (BadInput at) h =
    let n = length_inputs xs in
    let i : at - 10 ≡ first_bad (inputs_in xs) = omega arith in
    let b = bad_there (inputs_in xs) h.1 in
    let e = ap (λ k. get_or (inputs_in xs) k 0) i in
    let g = input_at xs at (omega arith) (omega arith) in
    (omega arith, omega arith, omega arith, omega arith)
rest_faulty own xs PastEnd h = absurd h
rest_faulty own xs Unmade h = h

-- ---- none

clean : (own : ℕ) (xs : List ℕ) (p : ℕ) → Started xs → Ended own xs → Means own xs p → ⊥
unfolding Means
clean own xs p s t m = let n = length_inputs xs in omega arith

lowest_by : (own : ℕ) (xs : List ℕ) (s t : Result (Unit {0}) Fault) → start_checked xs ≡ s → rest_checked own xs ≡ t → MatchResult (reading own xs) (λ m. (f : Fault) → Faulty own xs f → ⊥) (λ f. Faulty own xs f × ((g : Fault) → Faulty own xs g → fault_place f ≤ fault_place g))
unfolding reading
lowest_by own xs (Err f) t d e =
    let h = start_told xs f d in
    simp d (start_faulty own xs f h, λ g k. start_lowest own xs f (fault_place g) h (means own xs g k))
lowest_by own xs (Ok u) (Err f) d e =
    let h = rest_told own xs f e in
    simp (d, e) (rest_faulty own xs f h, λ g k. rest_lowest own xs f (fault_place g) (started xs d) h (means own xs g k))
lowest_by own xs (Ok u) (Ok v) d e =
    simp (d, e) (λ f k. clean own xs (fault_place f) (started xs d) (ended own xs e) (means own xs f k))

pub lowest_told : LowestTold
lowest_told own xs = lowest_by own xs (start_checked xs) (rest_checked own xs) refl refl
