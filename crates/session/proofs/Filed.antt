-- Events in bytes: what stands at a place, and that it is one. Assumes nothing.
use Rattle.std.proofs.Common.{◌≡◌, ℕ, ◌+◌, ◌-◌, ◌*◌, ◌<◌, ◌≤◌, List, Ok, Err, IsOk, Result, Some, None, [], ◌∷◌, ◌++◌, length, get_or, take, drop, sym, refl, ap, ◌∙◌, arith, length-append, length-drop, length-take, slice_range, subst}
use Rattle.std.specs.List.{flat_map, AllByRecursion}
use Rattle.std.proofs.lemmas.List.{length_push, append_assoc, append-nil, drop_all, drop_more, drop-drop, get_or-drop, length-take-le, take_all, take-take, take_at, drop_at, flat_map_more}
use Rattle.std.proofs.ByRecursion.{All-push}
use Rattle.byte_numbers.specs.Little.{little, number_of, part}
use Rattle.byte_numbers.specs.Numbers.{number_little}
use Rattle.byte_numbers.proofs.Places.{little_part, number_more, part_rest}
use Rattle.peer.specs.Peers.{Event, tick, arrival}
use Rattle.session.specs.declared.event.Happening.{Happening}
use Rattle.session.specs.declared.file.Events.{Events}
use Rattle.session.specs.declared.refused.Refused.{Refused}
use Rattle.session.specs.declared.refused.Refused.TheVariants as refused
use Rattle.session.specs.Events.{event_of}
use Rattle.session.specs.Following.{GivesEvent}
use Rattle.session.specs.Files.{event_bytes, Sized, FileOf, StandsAt, NoEvent, FaultyAt, OneRow, OneFault}

-- ---- bytes that came, at a place

pub arrival_stands : (file : List ℕ) (at n : ℕ) → at + 3 + n ≤ length file → get_or file at 0 ≡ 1 → n ≡ number_of (part file (at + 1) 2) → n < 65536 → ((i : ℕ) → get_or file i 0 < 256) → StandsAt file at (arrival (take n (drop (at + 3) file))) (at + 3 + n)
arrival_stands file at n h kind number room bytes =
    let xs : List ℕ = take n (drop (at + 3) file) in
    let long : length xs ≡ n = length-take-le n (drop (at + 3) file) (simp length-drop (omega arith)) in
    let d : drop at file ≡ get_or file at 0 ∷ drop (at + 1) file = drop_more file at 0 (omega arith) in
    let e : drop (at + 1) file ≡ part file (at + 1) 2 ++ drop (at + 3) file = part_rest file (at + 1) 2 (at + 3) (omega arith) in
    let l : little 2 (length xs) ≡ part file (at + 1) 2 = ap (little 2) (long ∙ number) ∙ little_part file 2 (at + 1) (omega arith) bytes in
    let r : drop (at + 3) file ≡ xs ++ drop (at + 3 + n) file = part_rest file (at + 3) n (at + 3 + n) (omega arith) in
    record {
      sized = omega arith;
      next_is = omega arith;
      within = h;
      there = d ∙ ap (λ b. b ∷ drop (at + 1) file) kind ∙ ap (λ zs. 1 ∷ zs) (e ∙ ap (λ zs. part file (at + 1) 2 ++ zs) r ∙ ap (λ zs. zs ++ (xs ++ drop (at + 3 + n) file)) (sym l) ∙ sym (append_assoc (little 2 (length xs)) xs (drop (at + 3 + n) file)));
    }

-- the same by the bytes from the place on, as slices have them
pub arrival_here : (file front bytes : List ℕ) (at n m : ℕ) → at ≤ length file → front ≡ slice_range file at (length file) → 3 ≤ length front → get_or front 0 0 ≡ 1 → n ≡ get_or front 1 0 + get_or front 2 0 * 256 → n < 65536 → ((i : ℕ) → get_or file i 0 < 256) → n ≤ length (take m (drop 3 front)) → bytes ≡ slice_range (take m (drop 3 front)) 0 n → StandsAt file at (arrival bytes) (at + 3 + n)
arrival_here file front bytes at n m within is long kind number room range enough bytes_are =
    let whole : front ≡ drop at file = is ∙ take_all (length file - at) (drop at file) (omega (arith, length-drop at file)) in
    let behind : drop 3 front ≡ drop (at + 3) file = ap (drop 3) whole ∙ drop-drop 3 at file in
    let size : length front ≡ length file - at = ap length whole ∙ length-drop at file in
    let fits = length-take m (drop 3 front) in
    let all : length (drop 3 front) ≡ length file - (at + 3) = ap length behind ∙ length-drop (at + 3) file in
    let z : n - 0 ≡ n = omega arith in
    let packet : bytes ≡ take n (drop (at + 3) file) = bytes_are ∙ ap (λ k. take k (take m (drop 3 front))) z ∙ take-take n m (drop 3 front) (omega arith) ∙ ap (take n) behind in
    let first = ap (λ zs. get_or zs 0 0) whole ∙ get_or-drop at file 0 0 in
    let at0 = ap (λ k. get_or file k 0) (let e : at + 0 ≡ at = omega arith in e) in
    let low = ap (λ zs. get_or zs 1 0) whole ∙ get_or-drop at file 1 0 in
    let high = ap (λ zs. get_or zs 2 0) whole ∙ get_or-drop at file 2 0 in
    let one = number_more file (at + 1) (at + 2) 1 (omega arith) (omega arith) in
    let two = number_more file (at + 2) (at + 3) 0 (omega arith) (omega arith) in
    let P : List ℕ → Type 0 = λ zs. StandsAt file at (arrival zs) (at + 3 + n) in
    subst P (sym packet) (arrival_stands file at n (omega arith) (omega arith) (omega arith) room range)

-- ---- one row

same_front : (e f : Event) (r s : List ℕ) → Sized e → Sized f → event_bytes e ++ r ≡ event_bytes f ++ s → (e ≡ f) × (r ≡ s)
same_front (tick a) (tick b) r s h k is =
    let e : a ≡ b = cc in
    let f : r ≡ s = cc in
    (ap tick e, f)
same_front (tick a) (arrival ys) r s h k is = let z : ◌≡◌ {A = ℕ} 0 1 = cc in absurd (omega arith)
same_front (arrival xs) (tick b) r s h k is = let z : ◌≡◌ {A = ℕ} 0 1 = cc in absurd (omega arith)
same_front (arrival xs) (arrival ys) r s h k is =
    let n : ℕ = length xs in
    let m : ℕ = length ys in
    let tails : little 2 n ++ (xs ++ r) ≡ little 2 m ++ (ys ++ s) = sym (append_assoc (little 2 n) xs r) ∙ ap (drop 1) is ∙ append_assoc (little 2 m) ys s in
    let numbers : little 2 n ≡ little 2 m = ap (take 2) tails in
    let rest : xs ++ r ≡ ys ++ s = ap (drop 2) tails in
    let long : n ≡ m = sym (number_little 2 n h) ∙ ap number_of numbers ∙ number_little 2 m k in
    let packets : xs ≡ ys = sym (take_at xs r n refl) ∙ ap (take n) rest ∙ ap (λ i. take i (ys ++ s)) long ∙ take_at ys s m refl in
    let others : r ≡ s = sym (drop_at xs r n refl) ∙ ap (drop n) rest ∙ ap (λ i. drop i (ys ++ s)) long ∙ drop_at ys s m refl in
    (ap arrival packets, others)

some_byte : (e : Event) (rest : List ℕ) → [] ≡ event_bytes e ++ rest → ⊥
some_byte (tick a) rest is = let z : 0 ≡ length (event_bytes (tick a) ++ rest) = ap length is in omega arith
some_byte (arrival xs) rest is = let z : 0 ≡ length (event_bytes (arrival xs) ++ rest) = ap length is in omega arith

same_rows : (es fs : List Event) → AllByRecursion Sized es → AllByRecursion Sized fs → flat_map event_bytes es ≡ flat_map event_bytes fs → es ≡ fs
same_rows [] [] h k is = refl
same_rows [] (f ∷ fs) h k is = absurd (some_byte f (flat_map event_bytes fs) is)
same_rows (e ∷ es) [] h k is = absurd (some_byte e (flat_map event_bytes es) (sym is))
same_rows (e ∷ es) (f ∷ fs) h k is =
    let p = same_front e f (flat_map event_bytes es) (flat_map event_bytes fs) h.0 k.0 is in
    let first : e ≡ f = p.0 in
    let rest : es ≡ fs = same_rows es fs h.1 k.1 p.1 in
    cc

-- events, and then more bytes with none at their front, are no row of events
not_faulty : (es bs : List Event) (rest : List ℕ) → AllByRecursion Sized es → AllByRecursion Sized bs → flat_map event_bytes es ≡ flat_map event_bytes bs ++ rest → 0 < length rest → NoEvent rest → ⊥
not_faulty [] [] rest h k is more none = let z : 0 ≡ length rest = ap length is in omega arith
not_faulty (e ∷ es) [] rest h k is more none = none e (flat_map event_bytes es) h.0 (sym is)
not_faulty [] (b ∷ bs) rest h k is more none =
    some_byte b (flat_map event_bytes bs ++ rest) (is ∙ append_assoc (event_bytes b) (flat_map event_bytes bs) rest)
not_faulty (e ∷ es) (b ∷ bs) rest h k is more none =
    not_faulty es bs rest h.1 k.1 (same_front e b (flat_map event_bytes es) (flat_map event_bytes bs ++ rest) h.0 k.0 (is ∙ append_assoc (event_bytes b) (flat_map event_bytes bs) rest)).1 more none

pub one_row : OneRow
one_row file es f =
    (λ fs g. same_rows es fs f.sized g.sized (sym f.bytes_are ∙ g.bytes_are), λ at g. not_faulty es g.before g.rest f.sized g.front.sized (sym f.bytes_are ∙ g.bytes_are) g.more g.none)

-- events up to bytes with none at their front are the same ones, wherever these bytes begin
same_before : (es fs : List Event) (r s : List ℕ) → AllByRecursion Sized es → AllByRecursion Sized fs → flat_map event_bytes es ++ r ≡ flat_map event_bytes fs ++ s → NoEvent r → NoEvent s → es ≡ fs
same_before [] [] r s h k is n m = refl
same_before [] (f ∷ fs) r s h k is n m =
    absurd (n f (flat_map event_bytes fs ++ s) k.0 (is ∙ append_assoc (event_bytes f) (flat_map event_bytes fs) s))
same_before (e ∷ es) [] r s h k is n m =
    absurd (m e (flat_map event_bytes es ++ r) h.0 (sym is ∙ append_assoc (event_bytes e) (flat_map event_bytes es) r))
same_before (e ∷ es) (f ∷ fs) r s h k is n m =
    let p = same_front e f (flat_map event_bytes es ++ r) (flat_map event_bytes fs ++ s) h.0 k.0 (sym (append_assoc (event_bytes e) (flat_map event_bytes es) r) ∙ is ∙ append_assoc (event_bytes f) (flat_map event_bytes fs) s) in
    let first : e ≡ f = p.0 in
    let rest : es ≡ fs = same_before es fs r s h.1 k.1 p.1 n m in
    cc

pub one_fault : OneFault
one_fault file at at' f g =
    f.place_is
    ∙ ap (λ es. length (flat_map event_bytes es)) (same_before f.before g.before f.rest g.rest f.front.sized g.front.sized (sym f.bytes_are ∙ g.bytes_are) f.none g.none)
    ∙ sym g.place_is

-- ---- a file event by event

-- the first events of a file, up to a place
pub record ReadUpTo (file : List ℕ) (es : List Event) (at : ℕ) : Type 0 where
  pub sized : AllByRecursion Sized es
  pub bytes_are : file ≡ flat_map event_bytes es ++ drop at file
  pub place_is : at ≡ length (flat_map event_bytes es)
  pub within : at ≤ length file

pub read_more : (file : List ℕ) (es : List Event) (at : ℕ) (e : Event) (next : ℕ) → ReadUpTo file es at → StandsAt file at e next → ReadUpTo file (es ++ e ∷ []) next
read_more file es at e next r s =
    let more : flat_map event_bytes es ++ event_bytes e ≡ flat_map event_bytes (es ++ e ∷ []) = flat_map_more event_bytes [] es e in
    let long : length (flat_map event_bytes (es ++ e ∷ [])) ≡ length (flat_map event_bytes es) + length (event_bytes e) = ap length (sym more) ∙ length-append (flat_map event_bytes es) (event_bytes e) in
    record {
      sized = All-push Sized es e r.sized s.sized;
      bytes_are = r.bytes_are ∙ ap (λ zs. flat_map event_bytes es ++ zs) s.there ∙ sym (append_assoc (flat_map event_bytes es) (event_bytes e) (drop next file)) ∙ ap (λ zs. zs ++ drop next file) more;
      place_is = s.next_is ∙ (omega arith);
      within = s.within;
    }

pub read_all : (file : List ℕ) (es : List Event) (at : ℕ) → ReadUpTo file es at → length file ≤ at → FileOf es file
read_all file es at r h =
    record { sized = r.sized; bytes_are = r.bytes_are ∙ ap (λ zs. flat_map event_bytes es ++ zs) (drop_all at file h) ∙ append-nil (flat_map event_bytes es) }

pub read_broken : (file : List ℕ) (es : List Event) (at : ℕ) → ReadUpTo file es at → at < length file → NoEvent (drop at file) → FaultyAt file at
read_broken file es at r h none =
    record {
      before = es;
      rest = drop at file;
      front = record { sized = r.sized; bytes_are = refl };
      bytes_are = r.bytes_are;
      place_is = r.place_is;
      more = simp length-drop (omega arith);
      none = none;
    }

-- an event goes on
pub next_beyond : (file : List ℕ) (at : ℕ) (e : Event) (next : ℕ) → StandsAt file at e next → at + 2 ≤ next
next_beyond file at (tick a) next s = omega (arith, s.next_is)
next_beyond file at (arrival xs) next s = omega (arith, s.next_is)

-- ---- the same by an iterator

-- what an iterator over a file's events has given
pub record Given (file : List ℕ) (es : List Event) (events : Events) : Type 0 where
  pub file_is : events.file.now ≡ file
  pub read : ReadUpTo file es events.at
  pub few : length es ≤ events.at

pub given_more : (file : List ℕ) (es : List Event) (s t : Events) (h : Happening) → GivesEvent s (Some (Ok h)) t → Given file es s → Given file (es ++ event_of h ∷ []) t
given_more file es s t h gives g =
    let e : Event = event_of h in
    let stands : StandsAt file s.at e t.at = rw g.file_is at gives.1 in
    let beyond = next_beyond file s.at e t.at stands in
    record { file_is = ap (λ b. b.now) gives.0 ∙ g.file_is; read = read_more file es s.at e t.at g.read stands; few = omega (arith, length_push es e, g.few) }

pub given_all : (file : List ℕ) (es : List Event) (s t : Events) → GivesEvent s None t → Given file es s → FileOf es file
given_all file es s t gives g = read_all file es s.at g.read (rw g.file_is at gives.0)

pub given_broken : (file : List ℕ) (es : List Event) (s t : Events) (f : Refused) → GivesEvent s (Some (Err f)) t → Given file es s → (f ≡ refused.Event s.at) × FaultyAt file s.at
given_broken file es s t f gives g =
    (gives.2, read_broken file es s.at g.read (rw g.file_is at gives.1) (rw g.file_is at gives.3))

-- of a file that is nowhere in fault no refusal comes
pub given_ok : (file : List ℕ) (es : List Event) (s t : Events) (r : Result Happening Refused) → ((at : ℕ) → FaultyAt file at → ⊥) → GivesEvent s (Some r) t → Given file es s → IsOk r
given_ok file es s t (Ok h) whole gives g = refl
given_ok file es s t (Err f) whole gives g = absurd (whole s.at (given_broken file es s t f gives g).1)
