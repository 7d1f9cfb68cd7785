-- Of several faults the one at the lowest place is told. Assumes nothing.
use Rattle.std.proofs.Common.{◌≡◌, ℕ, ◌+◌, ◌-◌, ◌<◌, ◌≤◌, min, ◌⊎◌, List, length, get_or, Some, Ok, Err, Result, sym, refl, ap, ◌∙◌, inl, inr, arith, length-drop, MatchResult}
use Rattle.std.proofs.lemmas.List.{get_or-drop}
use Rattle.std.proofs.lemmas.Slice.Zip.{length-zip}
use Rattle.std.proofs.lemmas.Bool.{cases_lt}
use Rattle.std.proofs.lemmas.Bool.Decides.{nat_tests}
use Rattle.recording.specs.declared.fault.Fault.{Fault}
use Rattle.recording.specs.declared.fault.Fault.TheVariants.{NoMark, CutShort, Window, TooMany, WrongState, TooLong}
use Rattle.recording.specs.Matches.{match_length}
use Rattle.recording.specs.Reading.{differing, mark_bytes, window_in, count_in, states_in, due_in, head_checked, states_checked, reading, fault_place}
use Rattle.recording.specs.Promise.{Faulty, LowestTold}
use Rattle.recording.proofs.Differences.{same_to, not_before, differing_some, differing_none, differs_nowhere}
use Rattle.recording.proofs.Checks.{Headed, headed, length_due, states_right}

-- how far the mark is there, and the saved states
abbrev front : List ℕ → ℕ
front xs = same_to xs mark_bytes

abbrev right : List ℕ → ℕ
right xs = same_to (states_in xs) (due_in xs)

-- a byte of the saved states by its place
state_byte : (xs : List ℕ) (at : ℕ) → 8 + count_in xs ≤ at → get_or (states_in xs) (at - (8 + count_in xs)) 0 ≡ get_or xs at 0
state_byte xs at h =
    let i : 8 + count_in xs + (at - (8 + count_in xs)) ≡ at = omega arith in
    get_or-drop (8 + count_in xs) xs (at - (8 + count_in xs)) 0 ∙ ap (λ k. get_or xs k 0) i

-- ---- a fault by numbers alone, at a place

Means : List ℕ → ℕ → Type 0
Means xs p =
    ((front xs ≤ p) × (p < 3) × (p < length xs))
    ⊎ ((p ≡ length xs) × (length xs < 8))
    ⊎ ((p ≡ length xs) × (length xs < match_length (count_in xs)) × (8 ≤ length xs))
    ⊎ ((p ≡ 3) × (4 ≤ length xs) × ((window_in xs < 1) ⊎ (60 < window_in xs)))
    ⊎ ((p ≡ 4) × (8 ≤ length xs) × (1000000 < count_in xs))
    ⊎ ((8 + count_in xs + right xs ≤ p) × (p < length xs) × (p < match_length (count_in xs)))
    ⊎ ((8 ≤ length xs) × (p ≡ match_length (count_in xs)) × (p < length xs))

means : (xs : List ℕ) (f : Fault) → Faulty xs f → Means xs (fault_place f)
unfolding Means
means xs (NoMark at) h = inl (not_before xs mark_bytes at h.1 (omega arith) h.2, h.0, h.1)
means xs (CutShort at) h = elim h.1 [ inl k ↦ inr (inl (h.0, k)) | inr k ↦ inr (inr (inl (h.0, k.0, k.1))) ]
means xs Window h = inr (inr (inr (inl (refl, h.0, h.1))))
means xs TooMany h = inr (inr (inr (inr (inl (refl, h.0, h.1)))))
means xs (WrongState at) h =
    let e = state_byte xs at h.0 in
    let there = length-drop (8 + count_in xs) xs in
    let due = length_due xs in
    let n = not_before (states_in xs) (due_in xs) (at - (8 + count_in xs)) (omega arith) (omega arith) (λ same. h.3 (sym e ∙ same)) in
    inr (inr (inr (inr (inr (inl (omega arith, h.1, h.2))))))
means xs (TooLong at) h = inr (inr (inr (inr (inr (inr h)))))

-- ---- a fault of the header or the frames

-- the mark as far as there are bytes
abbrev Marked : List ℕ → Type 0
Marked xs = min (length xs) 3 ≤ front xs

abbrev Near : List ℕ → Type 0
Near xs = (1 ≤ window_in xs) × (window_in xs ≤ 60)

HeadTold : List ℕ → Fault → Type 0
HeadTold xs (NoMark at) = differing xs mark_bytes ≡ Some at
HeadTold xs (CutShort at) =
    (at ≡ length xs) × Marked xs
    × ((length xs < 4) ⊎ ((length xs < 8) × Near xs) ⊎ ((8 ≤ length xs) × (count_in xs ≤ 1000000) × (length xs < 8 + count_in xs) × Near xs))
HeadTold xs Window = Marked xs × (4 ≤ length xs) × ((window_in xs < 1) ⊎ (60 < window_in xs))
HeadTold xs TooMany = Marked xs × (8 ≤ length xs) × (1000000 < count_in xs) × Near xs
HeadTold xs (WrongState at) = ⊥
HeadTold xs (TooLong at) = ⊥

head_told : (xs : List ℕ) (f : Fault) → head_checked xs ≡ Err f → HeadTold xs f
unfolding head_checked HeadTold
head_told xs (NoMark at) e = grind (arith, nat_tests)
head_told xs (CutShort at) e = let n = length-zip xs mark_bytes in (grind (arith, nat_tests), grind (arith, nat_tests), grind (arith, nat_tests))
head_told xs Window e = let n = length-zip xs mark_bytes in (grind (arith, nat_tests), grind (arith, nat_tests), grind (arith, nat_tests))
head_told xs TooMany e =
    let n = length-zip xs mark_bytes in
    (grind (arith, nat_tests), grind (arith, nat_tests), grind (arith, nat_tests), (grind (arith, nat_tests), grind (arith, nat_tests)))
head_told xs (WrongState at) e = grind (arith, nat_tests)
head_told xs (TooLong at) e = grind (arith, nat_tests)

head_lowest : (xs : List ℕ) (f : Fault) (p : ℕ) → HeadTold xs f → Means xs p → fault_place f ≤ p
unfolding HeadTold Means
head_lowest xs (NoMark at) p h m = let d = differing_some xs mark_bytes at h in omega arith
head_lowest xs (CutShort at) p h m = omega arith
head_lowest xs Window p h m = omega arith
head_lowest xs TooMany p h m = omega arith
head_lowest xs (WrongState at) p h m = absurd h
head_lowest xs (TooLong at) p h m = absurd h

head_faulty : (xs : List ℕ) (f : Fault) → HeadTold xs f → Faulty xs f
unfolding HeadTold
head_faulty xs (NoMark at) h = let d = differing_some xs mark_bytes at h in (d.1, d.0, d.3)
head_faulty xs (CutShort at) h = (h.0, elim (cases_lt (length xs) 8) [ inl k ↦ inl k | inr k ↦ inr (omega arith, k) ])
head_faulty xs Window h = (h.1, h.2)
head_faulty xs TooMany h = (h.1, h.2)
head_faulty xs (WrongState at) h = absurd h
head_faulty xs (TooLong at) h = absurd h

-- ---- a fault of the states, behind a header and frames that are right

-- the states as far as there are bytes
abbrev Kept : List ℕ → Type 0
Kept xs = min (length (states_in xs)) (length (due_in xs)) ≤ right xs

RestTold : List ℕ → Fault → Type 0
RestTold xs (NoMark at) = ⊥
RestTold xs (CutShort at) =
    (at ≡ 8 + count_in xs + length (states_in xs)) × Kept xs × (length (states_in xs) < length (due_in xs))
RestTold xs Window = ⊥
RestTold xs TooMany = ⊥
RestTold xs (WrongState at) = (k : ℕ) × (at ≡ 8 + count_in xs + k) × (differing (states_in xs) (due_in xs) ≡ Some k)
RestTold xs (TooLong at) =
    (at ≡ 8 + count_in xs + length (due_in xs)) × Kept xs × (length (due_in xs) < length (states_in xs))

rest_told : (xs : List ℕ) (f : Fault) → states_checked xs ≡ Err f → RestTold xs f
unfolding states_checked RestTold
rest_told xs (NoMark at) e = grind (arith, nat_tests)
rest_told xs (CutShort at) e = let n = length-zip (states_in xs) (due_in xs) in (grind (arith, nat_tests), grind (arith, nat_tests), grind (arith, nat_tests))
rest_told xs Window e = grind (arith, nat_tests)
rest_told xs TooMany e = grind (arith, nat_tests)
rest_told xs (WrongState at) e = (right xs, grind (arith, nat_tests), grind (arith, nat_tests))
rest_told xs (TooLong at) e = let n = length-zip (states_in xs) (due_in xs) in (grind (arith, nat_tests), grind (arith, nat_tests), grind (arith, nat_tests))

rest_lowest : (xs : List ℕ) (f : Fault) (p : ℕ) → Headed xs → RestTold xs f → Means xs p → fault_place f ≤ p
unfolding RestTold Means
rest_lowest xs (NoMark at) p s h m = absurd h
rest_lowest xs (CutShort at) p s h m =
    let n = length_due xs in
    let l = length-drop (8 + count_in xs) xs in
    let w = s.near in
    let f = differing_none xs mark_bytes s.mark in
    omega arith
rest_lowest xs Window p s h m = absurd h
rest_lowest xs TooMany p s h m = absurd h
rest_lowest xs (WrongState at) p s h m =
    let n = length_due xs in
    let l = length-drop (8 + count_in xs) xs in
    let w = s.near in
    let f = differing_none xs mark_bytes s.mark in
    let d = differing_some (states_in xs) (due_in xs) h.0 h.2 in
    omega (arith, h.1)
rest_lowest xs (TooLong at) p s h m =
    let n = length_due xs in
    let l = length-drop (8 + count_in xs) xs in
    let w = s.near in
    let f = differing_none xs mark_bytes s.mark in
    omega arith

rest_faulty : (xs : List ℕ) (f : Fault) → Headed xs → RestTold xs f → Faulty xs f
unfolding RestTold
rest_faulty xs (NoMark at) s h = absurd h
rest_faulty xs (CutShort at) s h =
    let n = length_due xs in
    let l = length-drop (8 + count_in xs) xs in
    (omega arith, inr (omega arith, s.long))
rest_faulty xs Window s h = absurd h
rest_faulty xs TooMany s h = absurd h
rest_faulty xs (WrongState at) s h =
    let n = length_due xs in
    let l = length-drop (8 + count_in xs) xs in
    let d = differing_some (states_in xs) (due_in xs) h.0 h.2 in
    let i : at - (8 + count_in xs) ≡ h.0 = omega (arith, h.1) in
    let e = state_byte xs at (omega (arith, h.1)) in (
      omega (arith, h.1),
      omega (arith, h.1),
      omega (arith, h.1),
      λ same. d.3 (ap (λ k. get_or (states_in xs) k 0) (sym i) ∙ e ∙ same ∙ ap (λ k. get_or (due_in xs) k 0) i),
    )
rest_faulty xs (TooLong at) s h =
    let n = length_due xs in
    let l = length-drop (8 + count_in xs) xs in
    (s.long, omega arith, omega arith)

-- ---- none

clean : (xs : List ℕ) (p : ℕ) → Headed xs → states_in xs ≡ due_in xs → Means xs p → ⊥
unfolding Means
clean xs p s e m =
    let n = length_due xs in
    let l = length-drop (8 + count_in xs) xs in
    let k = ap length e in
    let w = s.near in
    let f = differing_none xs mark_bytes s.mark in
    let r = differing_none (states_in xs) (due_in xs) (differs_nowhere _ _ (λ i _ _ _. ap (λ zs. get_or zs i 0) e)) in
    omega arith

lowest_by : (xs : List ℕ) (s t : Result (Unit {0}) Fault) → head_checked xs ≡ s → states_checked xs ≡ t → MatchResult (reading xs) (λ m. (f : Fault) → Faulty xs f → ⊥) (λ f. Faulty xs f × ((g : Fault) → Faulty xs g → fault_place f ≤ fault_place g))
unfolding reading
lowest_by xs (Err f) t d e =
    let h = head_told xs f d in
    simp d (head_faulty xs f h, λ g k. head_lowest xs f (fault_place g) h (means xs g k))
lowest_by xs (Ok u) (Err f) d e =
    let h = rest_told xs f e in
    let s = headed xs d in
    simp (d, e) (rest_faulty xs f s h, λ g k. rest_lowest xs f (fault_place g) s h (means xs g k))
lowest_by xs (Ok u) (Ok v) d e =
    simp (d, e) (λ f k. clean xs (fault_place f) (headed xs d) (states_right xs e) (means xs f k))

pub lowest_told : LowestTold
lowest_told xs = lowest_by xs (head_checked xs) (states_checked xs) refl refl
