-- The states that are saved: slots by remainders, and states by inputs. Assumes nothing.
use Rattle.std.proofs.Common.{◌≡◌, ℕ, zero, suc, ◌+◌, ◌*◌, ◌/◌, ◌%◌, ◌<◌, ◌≤◌, List, length, sym, refl, ap, ◌∙◌, subst, inl, inr, mul-le-mul_right, mod-lt, add-mul, one-mul, arith}
use native.Mathlib.Nat.{mod-add-div'}
use Rattle.std.proofs.lemmas.Bool.{cases_lt}
use Rattle.game.specs.Saved.{SavedRules, Lawful}
use Rattle.game.specs.declared.seat.Seat.{Seat}
use Rattle.game.specs.declared.seat.Seat.TheVariants.{Left, Right}
use Rattle.peer.specs.Lent.{LongStates, seated, own_at, other_at, state_at, after}
use Rattle.peer.proofs.Shows.{after_more}
use Rattle.rollback.specs.Saved.{slot, with_slot, Behind, Saved}
use Rattle.rollback.proofs.Bytes.{slot_same, slot_other, slot_behind}

-- two of a row of n + 1 numbers have not the same remainder by n + 1
apart : (n j k : ℕ) → j < k → k ≤ j + n → j % (n + 1) ≡ k % (n + 1) → ⊥
apart n j k lt le e =
    let dj = mod-add-div' j (n + 1) in
    let dk = mod-add-div' k (n + 1) in
    elim (cases_lt (j / (n + 1)) (k / (n + 1))) [
      | inl h ↦ omega (arith, mul-le-mul_right (n + 1) h, add-mul (j / (n + 1)) 1 (n + 1), one-mul (n + 1))
      | inr h ↦ omega (arith, mul-le-mul_right (n + 1) h)
    ]

-- a slot lies in the lent states
pub slot_within : (k n size : ℕ) → (n + 1) * 64 ≤ size → k % (n + 1) * 64 + 64 ≤ size
slot_within k n size h = let lt : k % (n + 1) < n + 1 = mod-lt k (omega arith) in omega arith

-- every state on the way is one that a game can come to
pub after_ok : {S : Type 0} (r : SavedRules S) → Lawful r → (seat : Seat) (inputs : List ℕ) (came k : ℕ) → r.ok (after (seated seat r.game) inputs came k)
unfolding state_at
after_ok r law Left inputs came zero = law.begins
after_ok r law Left inputs came (suc k) = law.goes_on _ _ _ (after_ok r law Left inputs came k)
after_ok r law Right inputs came zero = law.begins
after_ok r law Right inputs came (suc k) = law.goes_on _ _ _ (after_ok r law Right inputs came k)

-- one state is saved
pub saved_one : {S : Type 0} (r : SavedRules S) (seat : Seat) (window : ℕ) (inputs : List ℕ) (came : ℕ) (states : List ℕ) (k : ℕ) → slot states (k % (window + 1)) ≡ r.coded (after (seated seat r.game) inputs came k) → Saved r seat window inputs came states k k
unfolding Saved
saved_one r seat window inputs came states k e j l u =
    let same : k ≡ j = omega arith in
    let P : ℕ → Type 0 = λ m. slot states (m % (window + 1)) ≡ r.coded (after (seated seat r.game) inputs came m) in
    subst P same e

-- one more is saved in its slot alone, so that none of the window's is lost
pub saved_more : {S : Type 0} (r : SavedRules S) → Lawful r → (seat : Seat) (window : ℕ) (inputs : List ℕ) (came : ℕ) (states : List ℕ) (lo hi : ℕ) (s : S) → hi + 1 ≤ lo + window → LongStates window states → s ≡ after (seated seat r.game) inputs came (hi + 1) → Saved r seat window inputs came states lo hi → Saved r seat window inputs came (with_slot states ((hi + 1) % (window + 1)) (r.coded s)) lo (hi + 1)
unfolding Saved
saved_more r law seat window inputs came states lo hi s near room e old k l u =
    let at : ℕ = (hi + 1) % (window + 1) in
    let within = slot_within (hi + 1) window (length states) room in
    elim (cases_lt hi k) [
      | inl h ↦
          let same : hi + 1 ≡ k = omega arith in
          let P : ℕ → Type 0 = λ m. slot (with_slot states at (r.coded s)) (m % (window + 1)) ≡ r.coded (after (seated seat r.game) inputs came m) in
          subst P same (slot_same states _ (r.coded s) at refl within (law.long s) ∙ ap r.coded e)
      | inr h ↦
          slot_other states (r.coded s) at (k % (window + 1)) within (law.long s) (apart window k (hi + 1) (omega arith) (omega arith)) ∙ old k l h
    ]

-- a frame more that is played and saved
pub saved_next : {S : Type 0} (r : SavedRules S) → Lawful r → (seat : Seat) (window : ℕ) (inputs : List ℕ) (came : ℕ) (states states' : List ℕ) (lo hi : ℕ) (s t : S) → hi + 1 ≤ lo + window → LongStates window states → t ≡ (seated seat r.game).frame s (own_at inputs hi) (other_at came inputs hi) → states' ≡ with_slot states ((hi + 1) % (window + 1)) (r.coded t) → s ≡ after (seated seat r.game) inputs came hi → Saved r seat window inputs came states lo hi → (t ≡ after (seated seat r.game) inputs came (hi + 1)) × Saved r seat window inputs came states' lo (hi + 1)
saved_next r law seat window inputs came states states' lo hi s t near room played written at old =
    let game = seated seat r.game in
    let next : t ≡ after game inputs came (hi + 1) =
    played ∙ ap (λ u. game.frame u (own_at inputs hi) (other_at came inputs hi)) at ∙ sym (after_more game inputs came hi) in (
      next,
      subst (λ zs. Saved r seat window inputs came zs lo (hi + 1)) (sym written) (saved_more r law seat window inputs came states lo hi t near room next old),
    )

-- and nothing is written behind the slots
pub next_behind : (window k : ℕ) (xs ys bs : List ℕ) → LongStates window xs → length bs ≡ 64 → ys ≡ with_slot xs (k % (window + 1)) bs → Behind (window + 1) xs ys
next_behind window k xs ys bs room long written = slot_behind xs ys bs (k % (window + 1)) (window + 1) written (mod-lt k (omega arith)) room long

-- fewer are saved too, also for other inputs that give the same states
pub saved_as : {S : Type 0} (r : SavedRules S) (seat seat' : Seat) (window window' : ℕ) (xs ys : List ℕ) (came came' : ℕ) (states : List ℕ) (lo lo' hi hi' : ℕ) → seat' ≡ seat → window' ≡ window → lo ≤ lo' → hi' ≤ hi → ((k : ℕ) → k ≤ hi' → after (seated seat r.game) xs came k ≡ after (seated seat r.game) ys came' k) → Saved r seat window xs came states lo hi → Saved r seat' window' ys came' states lo' hi'
unfolding Saved
saved_as r seat seat' window window' xs ys came came' states lo lo' hi hi' e f p q same old k l u =
    ap (λ n. slot states (k % (n + 1))) f
    ∙ old k (omega arith) (omega arith)
    ∙ ap r.coded (same k u)
    ∙ ap (λ t. r.coded (after (seated t r.game) ys came' k)) (sym e)
