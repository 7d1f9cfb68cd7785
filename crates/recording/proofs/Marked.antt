-- Saved states against those that the frames give. Assumes nothing.
use Rattle.std.proofs.Common.{◌≡◌, ℕ, zero, suc, ◌+◌, ◌-◌, ◌*◌, ◌/◌, ◌<◌, ◌≤◌, ◌⊎◌, min, List, [], ◌++◌, map, length, get_or, take, drop, Some, None, sym, refl, ap, ◌∙◌, inl, inr, arith, length-append, length-drop, length-take}
use borrow.Rule.Slice.PartMut.{put_mid}
use Rattle.std.proofs.lemmas.List.{append-nil, append_assoc, take_at, take_min, drop_at, drop_min, drop-drop}
use Rattle.std.proofs.lemmas.Bool.{cases_lt}
use Rattle.byte_numbers.specs.Little.{part}
use Rattle.court_game.specs.Snapshots.{state_bytes}
use Rattle.court_game.specs.Sounding.{SoundingCourt, sounding_game}
use Rattle.game.specs.Plain.{plays, seat_0, seat_1}
use Rattle.recording.specs.Matches.{sounding_after, marks}
use Rattle.recording.specs.Reading.{differing}
use Rattle.recording.proofs.Differences.{Alike, part_byte, same_below, differing_some, differing_none, differs_at, differs_nowhere}
use Rattle.recording.proofs.Frames.{after_part, marks_more, length_marks}

-- the state after the frames of one part more
abbrev pub mark_bytes_at : List ℕ → ℕ → List ℕ
mark_bytes_at fs j = state_bytes (sounding_after (take (600 * (j + 1)) fs))

-- some states, and the others behind them
marks_rest : (fs : List ℕ) (j i : ℕ) → (rest : List ℕ) × (marks fs (j + i) ≡ marks fs j ++ rest)
marks_rest fs j zero =
    let z : j + 0 ≡ j = omega arith in
    ([], ap (marks fs) z ∙ sym (append-nil (marks fs j)))
marks_rest fs j (suc i) =
    let before = marks_rest fs j i in
    let n : j + suc i ≡ j + i + 1 = omega arith in
    let next : List ℕ = mark_bytes_at fs (j + i) in
    (before.0 ++ next, ap (marks fs) n ∙ marks_more fs (j + i) ∙ ap (λ zs. zs ++ next) before.1 ∙ append_assoc (marks fs j) before.0 next)

-- a state by its number
pub mark_part : (fs : List ℕ) (j m : ℕ) → j < m → part (marks fs m) (64 * j) 64 ≡ mark_bytes_at fs j
mark_part fs j m h =
    let r = marks_rest fs (j + 1) (m - (j + 1)) in
    let n : m ≡ j + 1 + (m - (j + 1)) = omega arith in
    let front = marks fs j in
    let here : List ℕ = mark_bytes_at fs j in
    let whole : marks fs m ≡ front ++ (here ++ r.0) =
    ap (marks fs) n ∙ r.1 ∙ ap (λ zs. zs ++ r.0) (marks_more fs j) ∙ append_assoc front here r.0 in
    ap (λ zs. part zs (64 * j) 64) whole
    ∙ ap (take 64) (drop_at front (here ++ r.0) (64 * j) (length_marks fs j))
    ∙ take_at here r.0 64 refl

-- a saved state by its number, as the code reads it
pub saved_at : (states fs : List ℕ) (n m k : ℕ) → states ≡ marks fs m → 0 < n → n ≤ m → k ≡ 64 → take k (drop (64 * n - 64) states) ≡ state_bytes (sounding_after (take (600 * n) fs))
saved_at states fs n m k e some h f =
    let j : ℕ = n - 1 in
    let at : 64 * n - 64 ≡ 64 * j = omega arith in
    let next : j + 1 ≡ n = omega arith in
    ap (λ i. take i (drop (64 * n - 64) states)) f
    ∙ ap (λ i. take 64 (drop i states)) at
    ∙ ap (λ zs. part zs (64 * j) 64) e
    ∙ mark_part fs j m (omega arith)
    ∙ ap (λ i. state_bytes (sounding_after (take (600 * i) fs))) next

-- ---- rows that are compared part by part

length_part : (xs : List ℕ) (n k : ℕ) → length (part xs n k) ≡ min k (length xs - n)
length_part xs n k = simp (length-take, length-drop)

-- a part that does not differ
alike_on : (xs ys : List ℕ) (n k : ℕ) → Alike xs ys n → differing (part xs n k) (part ys n k) ≡ None → Alike xs ys (n + k)
alike_on xs ys n k same e =
    λ i l a b.
    elim (cases_lt i n) [
      | inl h ↦ same i h a b
      | inr h ↦
          let lx = length_part xs n k in
          let ly = length_part ys n k in
          let at : n + (i - n) ≡ i = omega arith in
          let none = differing_none (part xs n k) (part ys n k) e in
          let here = same_below (part xs n k) (part ys n k) (i - n) (omega arith) (omega arith) (omega arith) in
          ap (λ j. get_or xs j 0) (sym at) ∙ sym (part_byte xs n k (i - n) (omega arith)) ∙ here ∙ part_byte ys n k (i - n) (omega arith) ∙ ap (λ j. get_or ys j 0) at
    ]

-- the first part that differs
differs_on : (xs ys : List ℕ) (n k a : ℕ) → Alike xs ys n → differing (part xs n k) (part ys n k) ≡ Some a → (differing xs ys ≡ Some (n + a)) × (n + a < length xs)
differs_on xs ys n k a same e =
    let h = differing_some (part xs n k) (part ys n k) a e in
    let lx = length_part xs n k in
    let ly = length_part ys n k in
    let before : Alike xs ys (n + a) = λ i l x y.
    elim (cases_lt i n) [
      | inl g ↦ same i g x y
      | inr g ↦
          let at : n + (i - n) ≡ i = omega arith in
          ap (λ j. get_or xs j 0) (sym at) ∙ sym (part_byte xs n k (i - n) (omega arith)) ∙ same_below (part xs n k) (part ys n k) (i - n) (omega arith) (omega arith) (omega arith) ∙ part_byte ys n k (i - n) (omega arith) ∙ ap (λ j. get_or ys j 0) at
    ] in (
      differs_at xs ys (n + a) (omega arith) (omega arith) before (λ same_here. h.3 (part_byte xs n k a (omega arith) ∙ same_here ∙ sym (part_byte ys n k a (omega arith)))),
      omega arith,
    )

-- ---- the loops over the frames, 600 at a time

-- the state after so many times 600 frames, and the frames that are left
pub record Played (fs : List ℕ) (state : SoundingCourt) (j : ℕ) (left : List ℕ) : Type 0 where
  pub left_is : left ≡ drop (600 * j) fs
  pub state_is : state ≡ sounding_after (take (600 * j) fs)
  pub within : 600 * j ≤ length fs

-- the front of what is left, and what is left then
cut : (xs front rest : List ℕ) (n k : ℕ) → front ++ rest ≡ drop n xs → length front ≡ min k (length (drop n xs)) → (front ≡ part xs n k) × (rest ≡ drop (n + k) xs)
cut xs front rest n k e l =
    let ys : List ℕ = drop n xs in
    (sym (take_at front rest _ l) ∙ ap (take (min k (length ys))) e ∙ take_min k ys, sym (drop_at front rest _ l) ∙ ap (drop (min k (length ys))) e ∙ drop_min k ys ∙ drop-drop k n xs)

pub played_more : (fs : List ℕ) (s t : SoundingCourt) (j : ℕ) (left next rest : List ℕ) → Played fs s j left → left ≡ next ++ rest → length next ≡ 600 → t ≡ plays sounding_game s (map seat_0 next) (map seat_1 next) → Played fs t (j + 1) rest
played_more fs s t j left next rest p e m is =
    let a = ap length e ∙ length-append next rest in
    let b = ap length p.left_is in
    let d = length-drop (600 * j) fs in
    let g = cut fs next rest (600 * j) 600 (sym e ∙ p.left_is) (omega arith) in
    let n : 600 * j + 600 ≡ 600 * (j + 1) = omega arith in
    record {
      left_is = g.1 ∙ ap (λ i. drop i fs) n;
      state_is = after_part fs next j 600 s t refl g.0 p.state_is is;
      within = omega arith;
    }

-- ---- the loop over the saved states

-- so many were compared and are right; what is left of them
pub record Compared (fs states : List ℕ) (state : SoundingCourt) (j : ℕ) (fs_left states_left : List ℕ) : Type 0 where
  pub played : Played fs state j fs_left
  pub left_is : states_left ≡ drop (64 * j) states
  pub right : Alike states (marks fs (length fs / 600)) (64 * j)

-- one more: its bytes, and those that are due
pub record Turned (fs states : List ℕ) (state : SoundingCourt) (j : ℕ) (saved fs_next states_next : List ℕ) : Type 0 where
  pub played : Played fs state (j + 1) fs_next
  pub saved_is : saved ≡ part states (64 * j) 64
  pub due_is : state_bytes state ≡ part (marks fs (length fs / 600)) (64 * j) 64
  pub left_is : states_next ≡ drop (64 * (j + 1)) states

-- by what the iterators gave: 600 frames, and up to 64 bytes
pub turned : (fs states : List ℕ) (s t : SoundingCourt) (j : ℕ) (fs_left states_left next saved fs_next states_next : List ℕ) (m n : ℕ) → Compared fs states s j fs_left states_left → (fs_left ≡ next ++ fs_next) × (length next ≡ m) → m ≡ 600 → (states_left ≡ saved ++ states_next) × (length saved ≡ min n (length states_left)) × (0 < length states_left) → n ≡ 64 → t ≡ plays sounding_game s (map seat_0 next) (map seat_1 next) → Turned fs states t j saved fs_next states_next
turned fs states s t j fs_left states_left next saved fs_next states_next m n c e f g h is =
    let more = played_more fs s t j fs_left next fs_next c.played e.0 (e.1 ∙ f) is in
    let early = more.within in
    let long = g.1 ∙ ap (λ k. min k (length states_left)) h ∙ ap (λ zs. min 64 (length zs)) c.left_is in
    let part_is = cut states saved states_next (64 * j) 64 (sym g.0 ∙ c.left_is) long in
    let q : 64 * j + 64 ≡ 64 * (j + 1) = omega arith in
    record {
      played = more;
      saved_is = part_is.0;
      due_is = ap state_bytes more.state_is ∙ sym (mark_part fs j (length fs / 600) (omega arith));
      left_is = part_is.1 ∙ ap (λ i. drop i states) q;
    }

-- the parts that the code compares are those
same_parts : (fs states : List ℕ) (t : SoundingCourt) (j : ℕ) (saved bytes fs_next states_next : List ℕ) → Turned fs states t j saved fs_next states_next → bytes ≡ state_bytes t → differing (part states (64 * j) 64) (part (marks fs (length fs / 600)) (64 * j) 64) ≡ differing saved bytes
same_parts fs states t j saved bytes fs_next states_next c b =
    ap (λ zs. differing zs (part (marks fs (length fs / 600)) (64 * j) 64)) (sym c.saved_is) ∙ ap (differing saved) (sym (b ∙ c.due_is))

pub compared_more : (fs states : List ℕ) (t : SoundingCourt) (j : ℕ) (saved bytes fs_next states_next : List ℕ) → Alike states (marks fs (length fs / 600)) (64 * j) → Turned fs states t j saved fs_next states_next → bytes ≡ state_bytes t → None ≡ differing saved bytes → Compared fs states t (j + 1) fs_next states_next
compared_more fs states t j saved bytes fs_next states_next same c b e =
    let more = alike_on states _ (64 * j) 64 same (same_parts fs states t j saved bytes fs_next states_next c b ∙ sym e) in
    record { played = c.played; left_is = c.left_is; right = λ i l. more i (omega arith) }

pub found : (fs states : List ℕ) (t : SoundingCourt) (j k : ℕ) (saved bytes fs_next states_next : List ℕ) → Alike states (marks fs (length fs / 600)) (64 * j) → Turned fs states t j saved fs_next states_next → bytes ≡ state_bytes t → Some k ≡ differing saved bytes → (differing states (marks fs (length fs / 600)) ≡ Some (64 * j + k)) × (64 * j + k < length states)
found fs states t j k saved bytes fs_next states_next same c b e =
    differs_on states _ (64 * j) 64 k same (same_parts fs states t j saved bytes fs_next states_next c b ∙ sym e)

-- where there are no more frames for a state, or no more bytes
pub all_compared : (fs states : List ℕ) (s : SoundingCourt) (j : ℕ) (fs_left states_left : List ℕ) → Compared fs states s j fs_left states_left → (length fs_left < 600) ⊎ (length states_left ≡ 0) → differing states (marks fs (length fs / 600)) ≡ None
all_compared fs states s j fs_left states_left c end =
    let p = c.played in
    let a = ap length p.left_is ∙ length-drop (600 * j) fs in
    let b = ap length c.left_is ∙ length-drop (64 * j) states in
    let m = length_marks fs (length fs / 600) in
    differs_nowhere _ _ (λ i l x y. c.right i (omega arith) x y)

-- ---- the loop that writes them

-- one more state behind those that are written
pub put_more : (xs fs ys bs : List ℕ) (j k : ℕ) → ys ≡ marks fs j ++ drop (64 * j) xs → bs ≡ mark_bytes_at fs j → k ≡ 64 → put_mid (64 * j) k ys bs ≡ marks fs (j + 1) ++ drop (64 * (j + 1)) xs
put_more xs fs ys bs j k e f g =
    let front : List ℕ = marks fs j in
    let n : 64 * j + k ≡ 64 * (j + 1) = omega arith in
    let rest : drop (64 * j) ys ≡ drop (64 * j) xs = ap (drop (64 * j)) e ∙ drop_at front _ (64 * j) (length_marks fs j) in
    ap (λ zs. zs ++ (bs ++ drop k (drop (64 * j) ys))) (ap (take (64 * j)) e ∙ take_at front _ (64 * j) (length_marks fs j))
    ∙ ap (λ zs. front ++ (bs ++ drop k zs)) rest
    ∙ ap (λ zs. front ++ (bs ++ zs)) (drop-drop k (64 * j) xs ∙ ap (λ i. drop i xs) n)
    ∙ ap (λ zs. front ++ (zs ++ drop (64 * (j + 1)) xs)) f
    ∙ sym (append_assoc front (mark_bytes_at fs j) _)
    ∙ ap (λ zs. zs ++ drop (64 * (j + 1)) xs) (sym (marks_more fs j))
