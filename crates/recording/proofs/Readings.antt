-- What is read is what was written, and only that. Assumes nothing.
use Rattle.std.proofs.Common.{◌≡◌, ℕ, ◌+◌, ◌/◌, ◌<◌, ◌≤◌, List, ◌∷◌, ◌++◌, length, get_or, take, drop, Ok, Err, Result, None, sym, refl, ap, ◌∙◌, subst, inl, inr, arith, length-take}
use Rattle.std.proofs.lemmas.List.{drop_more, take-append-drop, length-take-le, get_or-take, get_or_past, ext_get_or}
use Rattle.std.proofs.lemmas.Bool.{cases_lt}
use Rattle.byte_numbers.specs.Little.{little, part}
use Rattle.byte_numbers.proofs.Places.{little_part, part_rest}
use Rattle.recording.specs.declared.fault.Fault.{Fault}
use Rattle.recording.specs.declared.held.Recording.{Recording}
use Rattle.recording.specs.Matches.{Match, marks, match_bytes}
use Rattle.recording.specs.Reading.{differing, mark_bytes, window_in, count_in, frames_in, states_in, due_in, head_checked, states_told, states_checked, reading, match_in, PartsOf, Right, Proper}
use Rattle.recording.proofs.Checks.{Headed, headed, frames_there, due_as, told_as, states_right}
use Rattle.recording.proofs.Differences.{part_byte, same_below, differing_none}

abbrev pub found_in : List ℕ → Match
found_in xs = record { window = window_in xs; frames = frames_in xs }

-- ---- by the checks

pub bad_head : (xs : List ℕ) (f : Fault) → head_checked xs ≡ Err f → reading xs ≡ Err f
unfolding reading
bad_head xs f e = simp e

pub bad_states : (xs : List ℕ) (f : Fault) → head_checked xs ≡ Ok tt → states_checked xs ≡ Err f → reading xs ≡ Err f
unfolding reading
bad_states xs f d e = simp (d, e)

pub all_right : (xs : List ℕ) → head_checked xs ≡ Ok tt → states_checked xs ≡ Ok tt → reading xs ≡ Ok (found_in xs)
unfolding reading
all_right xs d e = simp (d, e)

-- ---- the bytes of what was read

marked : (xs : List ℕ) → 3 ≤ length xs → differing xs mark_bytes ≡ None → xs ≡ mark_bytes ++ drop 3 xs
marked xs l e =
    let none = differing_none xs mark_bytes e in
    let three = length-take-le 3 xs l in
    let same : take 3 xs ≡ mark_bytes =
    ext_get_or 0 (take 3 xs) mark_bytes three (λ i h. get_or-take 3 xs i 0 (omega arith) ∙ same_below xs mark_bytes i (omega arith) (omega arith) (omega arith)) in
    sym (take-append-drop 3 xs) ∙ ap (λ zs. zs ++ drop 3 xs) same

pub read_back : (xs : List ℕ) → ((i : ℕ) → get_or xs i 0 < 256) → Headed xs → states_in xs ≡ due_in xs → match_bytes (found_in xs) ≡ xs
read_back xs b h e =
    let n : ℕ = count_in xs in
    let fs : List ℕ = frames_in xs in
    let long : length fs ≡ n = frames_there xs h in
    let d3 : drop 3 xs ≡ window_in xs ∷ drop 4 xs = drop_more xs 3 0 (omega arith) in
    let d4 : drop 4 xs ≡ part xs 4 4 ++ drop 8 xs = part_rest xs 4 4 8 refl in
    let d8 : drop 8 xs ≡ fs ++ states_in xs = part_rest xs 8 n (8 + n) refl in
    let count : little 4 (length fs) ≡ part xs 4 4 = ap (little 4) long ∙ little_part xs 4 4 (omega arith) b in
    let states : marks fs (length fs / 600) ≡ states_in xs = ap (λ k. marks fs (k / 600)) long ∙ sym e in
    let tail : little 4 (length fs) ++ (fs ++ marks fs (length fs / 600)) ≡ drop 4 xs =
    ap (λ zs. zs ++ (fs ++ marks fs (length fs / 600))) count ∙ ap (λ zs. part xs 4 4 ++ (fs ++ zs)) states ∙ ap (λ zs. part xs 4 4 ++ zs) (sym d8) ∙ sym d4 in
    ap (λ zs. 82 ∷ (69 ∷ (67 ∷ (window_in xs ∷ zs)))) tail
    ∙ ap (λ zs. 82 ∷ (69 ∷ (67 ∷ zs))) (sym d3)
    ∙ sym (marked xs (omega arith) h.mark)

-- a byte of a part is a byte
part_fits : (xs : List ℕ) (at n i : ℕ) → ((k : ℕ) → get_or xs k 0 < 256) → get_or (part xs at n) i 0 < 256
part_fits xs at n i b =
    elim (cases_lt i n) [
      | inl h ↦ let e = part_byte xs at n i h in let k = b (at + i) in omega arith
      | inr h ↦ let e = get_or_past (part xs at n) i 0 (omega (arith, length-take n (drop at xs))) in omega arith
    ]

pub read_proper : (xs : List ℕ) → ((i : ℕ) → get_or xs i 0 < 256) → Headed xs → Proper (found_in xs)
read_proper xs b h =
    let long = frames_there xs h in
    record { near = h.near; few = omega arith; bytes = λ i. part_fits xs 8 (count_in xs) i b }

-- what the reader hands back, once its parts are judged
pub taken : (xs : List ℕ) (r : Recording) → ((i : ℕ) → get_or xs i 0 < 256) → PartsOf xs (Ok r) → (let due : List ℕ = marks r.frames.now (length r.frames.now / 600) in Ok tt ≡ states_told (8 + length r.frames.now) (differing r.states.now due) (length r.states.now) (length due)) → (Ok (match_in r) ≡ reading xs) × Proper (match_in r) × Right r × (match_bytes (match_in r) ≡ xs)
taken xs r b parts told =
    let h = headed xs parts.0 in
    let checked = sym (told ∙ told_as xs _ _ h parts.2 parts.3) in
    let right = states_right xs checked in
    let same : match_in r ≡ found_in xs = cc in
    let ok : Match → Result Match Fault = λ m. Ok m in (
      ap ok same ∙ sym (all_right xs parts.0 checked),
      subst Proper (sym same) (read_proper xs b h),
      parts.3 ∙ right ∙ sym (due_as xs _ h parts.2),
      ap match_bytes same ∙ read_back xs b h right,
    )
