-- Writer and reader are each other's inverse. Assumes nothing.
use Rattle.std.proofs.Common.{◌≡◌, ℕ, ◌+◌, ◌*◌, ◌/◌, true, List, ◌++◌, length, is_err, Ok, Err, Result, sym, refl, ap, ◌∙◌, subst, arith, length-append}
use Rattle.std.proofs.lemmas.List.{take_at, drop_at, drop-drop}
use Rattle.byte_numbers.specs.Little.{little}
use Rattle.byte_numbers.specs.Numbers.{number_little}
use Rattle.recording.specs.declared.fault.Fault.{Fault}
use Rattle.recording.specs.Matches.{Match, marks, match_bytes}
use Rattle.recording.specs.Reading.{count_in, frames_in, states_in, due_in, head_checked, states_checked, reading, Proper}
use Rattle.recording.specs.Promise.{WrittenRead, ReadWritten, OneAtMost, RefusedExactly}
use Rattle.recording.proofs.Checks.{Headed, headed, heads, states_right, states_fit}
use Rattle.recording.proofs.Frames.{length_marks}
use Rattle.recording.proofs.Readings.{found_in, bad_head, bad_states, all_right, read_back, read_proper}

-- ---- a recording's bytes, field by field

count_is : (m : Match) → Proper m → count_in (match_bytes m) ≡ length m.frames
count_is m p = let few = p.few in number_little 4 (length m.frames) (omega arith)

frames_are : (m : Match) → Proper m → frames_in (match_bytes m) ≡ m.frames
frames_are m p =
    take_at m.frames (marks m.frames (length m.frames / 600)) (count_in (match_bytes m)) (sym (count_is m p))

due_is : (m : Match) → Proper m → due_in (match_bytes m) ≡ marks m.frames (length m.frames / 600)
due_is m p =
    ap (λ fs. marks fs (count_in (match_bytes m) / 600)) (frames_are m p) ∙ ap (λ n. marks m.frames (n / 600)) (count_is m p)

states_are : (m : Match) → Proper m → states_in (match_bytes m) ≡ due_in (match_bytes m)
states_are m p =
    sym (drop-drop (count_in (match_bytes m)) 8 (match_bytes m))
    ∙ drop_at m.frames (marks m.frames (length m.frames / 600)) (count_in (match_bytes m)) (sym (count_is m p))
    ∙ sym (due_is m p)

pub written_long : (m : Match) → length (match_bytes m) ≡ 8 + (length m.frames + 64 * (length m.frames / 600))
written_long m =
    let fs : List ℕ = m.frames in
    let ms : List ℕ = marks fs (length fs / 600) in
    omega (arith, length-append (little 4 (length fs)) (fs ++ ms), length-append fs ms, length_marks fs (length fs / 600))

written_head : (m : Match) → Proper m → Headed (match_bytes m)
written_head m p =
    let n = count_is m p in
    let few = p.few in
    let long = written_long m in
    record { mark = refl; long = omega arith; near = p.near; few = omega arith; whole = omega arith }

-- ---- what is promised

pub written_read : WrittenRead
written_read m p =
    let ok : List ℕ → Result Match Fault = λ fs. Ok (record { window = m.window; frames = fs }) in
    all_right (match_bytes m) (heads (match_bytes m) (written_head m p)) (states_fit (match_bytes m) (states_are m p)) ∙ ap ok (frames_are m p)

-- the checks of what is taken went well
checked : (xs : List ℕ) (m : Match) (s t : Result (Unit {0}) Fault) → head_checked xs ≡ s → states_checked xs ≡ t → reading xs ≡ Ok m → (head_checked xs ≡ Ok tt) × (states_checked xs ≡ Ok tt)
checked xs m (Ok u) (Ok v) d e h = (d, e)
checked xs m (Ok u) (Err f) d e h = let no : ⊥ = cc (bad_states xs f d e) in absurd no
checked xs m (Err f) t d e h = let no : ⊥ = cc (bad_head xs f d) in absurd no

pub read_written : ReadWritten
read_written xs m b h =
    let k = checked xs m (head_checked xs) (states_checked xs) refl refl h in
    let s : Headed xs = headed xs k.0 in
    let e : found_in xs ≡ m = cc (all_right xs k.0 k.1) in
    (ap match_bytes (sym e) ∙ read_back xs b s (states_right xs k.1), subst Proper e (read_proper xs b s))

pub one_at_most : OneAtMost
one_at_most m n h k e = cc (written_read m h, written_read n k, ap reading e)

pub refused_exactly : RefusedExactly
refused_exactly xs b = (λ f e m h w. cc (ap reading w, written_read m h), λ none. by (reading xs) refl none)
  where
    by : (r : Result Match Fault) → reading xs ≡ r → ((m : Match) → Proper m → match_bytes m ≡ xs → ⊥) → is_err (reading xs) ≡ true
    by (Ok m) e none = let p = read_written xs m b e in absurd (none m p.1 p.0)
    by (Err f) e none = ap is_err e
