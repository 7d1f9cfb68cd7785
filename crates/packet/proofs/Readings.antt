-- What is read is what was written, and only that. Assumes nothing.
use Rattle.std.proofs.Common.{◌≡◌, ℕ, ◌^◌, ◌<◌, true, List, ◌∷◌, ◌++◌, length, get_or, drop, is_err, Ok, Err, Result, sym, refl, ap, ◌∙◌, subst, arith, length-drop}
use Rattle.std.proofs.lemmas.List.{drop_more, take_all}
use Rattle.byte_numbers.specs.Little.{little, part}
use Rattle.byte_numbers.specs.Numbers.{number_little}
use Rattle.byte_numbers.proofs.Places.{little_part, part_rest}
use Rattle.packet.specs.declared.fault.Fault.{Fault}
use Rattle.packet.specs.Inputs.{first_bad}
use Rattle.packet.specs.Wire.{Message, Proper, message_bytes, first_in, count_in, ack_in, inputs_in, start_checked, rest_checked, reading, WrittenRead, ReadWritten, OneAtMost, RefusedExactly}
use Rattle.packet.proofs.Checks.{Started, Ended, started, starts, ended, ends, fit_from_bad, bad_from_fit}

abbrev pub message_in : List ℕ → Message
message_in xs = record { first = first_in xs; inputs = inputs_in xs; ack = ack_in xs }

pub as_read : (xs : List ℕ) (f a : ℕ) (is : List ℕ) → f ≡ first_in xs → a ≡ ack_in xs → is ≡ inputs_in xs → ◌≡◌ {A = Message} (record { first = f; inputs = is; ack = a }) (message_in xs)
as_read xs f a is e g h = cc

-- ---- by the checks

pub all_right : (own : ℕ) (xs : List ℕ) → start_checked xs ≡ Ok tt → rest_checked own xs ≡ Ok tt → reading own xs ≡ Ok (message_in xs)
unfolding reading
all_right own xs d e = simp (d, e)

-- ---- the bytes of what was read

-- all inputs are there
whole_inputs : (own : ℕ) (xs : List ℕ) → Ended own xs → inputs_in xs ≡ drop 10 xs
whole_inputs own xs t = take_all (count_in xs) (drop 10 xs) (simp length-drop (omega arith))

count_is : (own : ℕ) (xs : List ℕ) → Ended own xs → length (inputs_in xs) ≡ count_in xs
count_is own xs t = ap length (whole_inputs own xs t) ∙ simp length-drop (omega arith)

pub read_back : (own : ℕ) (xs : List ℕ) → ((i : ℕ) → get_or xs i 0 < 256) → Started xs → Ended own xs → message_bytes (message_in xs) ≡ xs
read_back own xs b s t =
    let first : List ℕ = part xs 1 4 in
    let ack : List ℕ = part xs 6 4 in
    let n : ℕ = count_in xs in
    ap (λ fs. 72 ∷ (fs ++ (length (inputs_in xs) ∷ (little 4 (ack_in xs) ++ inputs_in xs)))) (little_part xs 4 1 (omega arith) b)
    ∙ ap (λ k. 72 ∷ (first ++ (k ∷ (little 4 (ack_in xs) ++ inputs_in xs)))) (count_is own xs t)
    ∙ ap (λ bs. 72 ∷ (first ++ (n ∷ (bs ++ inputs_in xs)))) (little_part xs 4 6 (omega arith) b)
    ∙ ap (λ is. 72 ∷ (first ++ (n ∷ (ack ++ is)))) (whole_inputs own xs t)
    ∙ ap (λ r. 72 ∷ (first ++ (n ∷ r))) (sym (part_rest xs 6 4 10 refl))
    ∙ ap (λ r. 72 ∷ (first ++ r)) (sym (drop_more xs 5 0 (omega arith)))
    ∙ ap (λ r. 72 ∷ r) (sym (part_rest xs 1 4 5 refl))
    ∙ ap (λ h. h ∷ drop 1 xs) (sym s.mark)
    ∙ sym (drop_more xs 0 0 (omega arith))

pub read_proper : (own : ℕ) (xs : List ℕ) → Started xs → Ended own xs → Proper own (message_in xs)
read_proper own xs s t =
    let n = count_is own xs t in
    record { few = omega arith; whole = omega arith; fit = fit_from_bad (inputs_in xs) t.fit; known = t.known }

-- ---- what was written

module _ (own : ℕ) (m : Message) (small : own < 2 ^ 32) (h : Proper own m) where
  first_read : first_in (message_bytes m) ≡ m.first
  first_read = number_little 4 m.first (omega arith)

  ack_read : ack_in (message_bytes m) ≡ m.ack
  ack_read = number_little 4 m.ack (omega arith)

  inputs_read : inputs_in (message_bytes m) ≡ m.inputs
  inputs_read = take_all (length m.inputs) m.inputs (omega arith)

  written_starts : Started (message_bytes m)
  written_starts = let e = first_read in record { long = omega arith; mark = refl; whole = omega arith; few = h.few }

  written_ends : Ended own (message_bytes m)
  written_ends =
      let e = ack_read in
      let n = ap length inputs_read in
      let b = ap first_bad inputs_read in
      let f = bad_from_fit m.inputs h.fit in
      record { exact = omega arith; known = omega arith; fit = omega arith }

pub written_read : WrittenRead
written_read own m small h =
    let xs : List ℕ = message_bytes m in
    all_right own xs (starts xs (written_starts own m small h)) (ends own xs (written_ends own m small h))
    ∙ ap Ok (sym (as_read xs m.first m.ack m.inputs (sym (first_read own m small h)) (sym (ack_read own m small h)) (sym (inputs_read own m small h))))

-- ---- what was taken

-- the checks of what is taken went well
checked : (own : ℕ) (xs : List ℕ) (m : Message) → reading own xs ≡ Ok m → (start_checked xs ≡ Ok tt) × (rest_checked own xs ≡ Ok tt)
unfolding reading
checked own xs m e = (grind arith, grind arith)

pub read_written : ReadWritten
read_written own xs m b h =
    let k = checked own xs m h in
    let s : Started xs = started xs k.0 in
    let t : Ended own xs = ended own xs k.1 in
    let r = all_right own xs k.0 k.1 in
    let e : message_in xs ≡ m = cc in
    (ap message_bytes (sym e) ∙ read_back own xs b s t, subst (Proper own) e (read_proper own xs s t))

pub one_at_most : OneAtMost
one_at_most own m n small h k e =
    let r = written_read own m small h in
    let s = written_read own n small k in
    cc

pub refused_exactly : RefusedExactly
refused_exactly own xs small b = (
  λ f e m h w. let r = written_read own m small h in cc,
  λ none. by (reading own xs) refl none,
)
  where
    by : (r : Result Message Fault) → reading own xs ≡ r → ((m : Message) → Proper own m → message_bytes m ≡ xs → ⊥) → is_err (reading own xs) ≡ true
    by (Ok m) e none = let p = read_written own xs m b e in absurd (none m p.1 p.0)
    by (Err f) e none = ap is_err e
