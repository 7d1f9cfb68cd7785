-- What a peer of two predicts is what it predicts at two seats. Assumes nothing.
use Rattle.std.proofs.Common.{◌≡◌, ℕ, zero, suc, ◌<◌, List, [], ◌∷◌, length, get_or, take, sym, ap, ap₂, ◌∙◌, subst, arith, length-take}
use Rattle.std.proofs.lemmas.List.{ext_get_or, get_or-take}
use Rattle.game.specs.declared.seat.Seat.{Seat as TwoSeat}
use Rattle.game.specs.declared.seat.Seat.TheVariants.{Left, Right}
use Rattle.network.specs.Promise.{Guessed}
use Rattle.peer.specs.Peers.{Log as TwoLog, Event as TwoEvent, filled, event as two_event, predicted as two_predicted, AsPredicted as TwoAsPredicted}
use Rattle.seats.specs.Peers.{Log, own, frames, predicted_input, predicted_inputs, AsPredicted, shown_state}
use Rattle.seats.proofs.OnePeer.{predicted_came, arrival_own, guessed}
use Rattle.two_seats.specs.Two.{game_of, log_of}
use Rattle.two_seats.proofs.Peers.{same_event, same_standing, filled_at, length_filled}
use Rattle.two_seats.proofs.Promises.{own_is}

module _ (n : ℕ) (xs ys : List ℕ) where
  -- what came is what was filled in, at each place and as a whole
  as_each : take n ys ≡ take (length ys) (filled n 0 xs) → (k : ℕ) → k < n → k < length ys → get_or ys k 0 ≡ predicted_input xs k
  as_each e k p q =
      sym (get_or-take n ys k 0 p) ∙ ap (λ zs. get_or zs k 0) e ∙ get_or-take (length ys) (filled n 0 xs) k 0 q ∙ filled_at n 0 xs k p

  as_whole : ((k : ℕ) → k < n → k < length ys → get_or ys k 0 ≡ predicted_input xs k) → take n ys ≡ take (length ys) (filled n 0 xs)
  as_whole each =
      let filled_len = length_filled n 0 xs in
      let l : length (take n ys) ≡ length (take (length ys) (filled n 0 xs)) = simp length-take (omega arith) in
      ext_get_or 0 (take n ys) (take (length ys) (filled n 0 xs)) l
      (λ k h.
      let p : k < n = omega (arith, length-take n ys) in
      let q : k < length ys = omega (arith, length-take n ys) in
      get_or-take n ys k 0 p ∙ each k p q ∙ sym (get_or-take (length ys) (filled n 0 xs) k 0 q ∙ filled_at n 0 xs k p))

  -- and so is what is filled in of two lists
  filled_each : filled n 0 ys ≡ filled n 0 xs → (k : ℕ) → k < n → predicted_input ys k ≡ predicted_input xs k
  filled_each e k p = sym (filled_at n 0 ys k p) ∙ ap (λ zs. get_or zs k 0) e ∙ filled_at n 0 xs k p

  filled_whole : ((k : ℕ) → k < n → predicted_input ys k ≡ predicted_input xs k) → filled n 0 ys ≡ filled n 0 xs
  filled_whole each =
      ext_get_or 0 (filled n 0 ys) (filled n 0 xs) (length_filled n 0 ys ∙ sym (length_filled n 0 xs))
      (λ k h.
      let p : k < n = omega (arith, length_filled n 0 ys) in
      filled_at n 0 ys k p ∙ each k p ∙ sym (filled_at n 0 xs k p))

-- every prediction of the frames that were played is as it was
abbrev pub Same : TwoSeat → TwoLog → Log → Type 0
Same seat l to = (k : ℕ) → k < frames (log_of seat l) → predicted_inputs to.rows k ≡ predicted_inputs (log_of seat l).rows k

module _ (l to : TwoLog) (mine : to.own ≡ l.own) where
  own_came : (k : ℕ) → k < length l.own → get_or to.own k 0 ≡ predicted_input l.own k
  own_came k p = ap (λ xs. get_or xs k 0) mine ∙ sym (predicted_came l.own k p)

  as_of : (seat : TwoSeat) → TwoAsPredicted l to → AsPredicted (log_of seat l) (log_of seat to)
  as_of Left e zero k h p q = own_came k p
  as_of Left e (suc zero) k h p q = as_each (length l.own) l.other to.other e k p q
  as_of Left e (suc (suc s)) k h p q = let no : ⊥ = omega arith in absurd no
  as_of Right e zero k h p q = as_each (length l.own) l.other to.other e k p q
  as_of Right e (suc zero) k h p q = own_came k p
  as_of Right e (suc (suc s)) k h p q = let no : ⊥ = omega arith in absurd no

  of_as : (seat : TwoSeat) → AsPredicted (log_of seat l) (log_of seat to) → TwoAsPredicted l to
  of_as Left a = as_whole (length l.own) l.other to.other (λ k p q. a 1 k (omega arith) p q)
  of_as Right a = as_whole (length l.own) l.other to.other (λ k p q. a 0 k (omega arith) p q)

  predicted_is : two_predicted to ≡ filled (length l.own) 0 to.other
  predicted_is = ap (λ (xs : List ℕ). filled (length xs) 0 to.other) mine

  predicted_of : (seat : TwoSeat) → Same seat l (log_of seat to) → two_predicted to ≡ two_predicted l
  predicted_of Left same =
      predicted_is ∙ filled_whole (length l.own) l.other to.other (λ k p. ap (λ zs. get_or zs 1 0) (same k p))
  predicted_of Right same =
      predicted_is ∙ filled_whole (length l.own) l.other to.other (λ k p. ap (λ zs. get_or zs 0 0) (same k p))

  same_of : (seat : TwoSeat) → two_predicted to ≡ two_predicted l → Same seat l (log_of seat to)
  same_of Left e k p =
      ap₂ (λ a b. a ∷ b ∷ []) (ap (λ xs. predicted_input xs k) mine) (filled_each (length l.own) l.other to.other (sym predicted_is ∙ e) k p)
  same_of Right e k p =
      ap₂ (λ a b. a ∷ b ∷ []) (filled_each (length l.own) l.other to.other (sym predicted_is ∙ e) k p) (ap (λ xs. predicted_input xs k) mine)

pub two_guessed : (S : Type 0) → Guessed S
two_guessed S g seat fits window l xs =
    let to : TwoLog = two_event fits window l (TwoEvent.arrival xs) in
    let old : Log = log_of seat l in
    let same_to = same_event fits window seat l (TwoEvent.arrival xs) in
    let mine : to.own ≡ l.own = sym (own_is seat to) ∙ ap own (sym same_to) ∙ arrival_own fits window old xs ∙ own_is seat l in
    let Both : Log → Type 0 = λ new.
    (AsPredicted old new → Same seat l new × (shown_state (game_of g) new ≡ shown_state (game_of g) old)) × (Same seat l new → AsPredicted old new) in
    let both : Both (log_of seat to) = subst Both same_to (guessed S (game_of g) fits window old xs) in (
      λ came.
          let r = both.0 (as_of l to mine seat came) in
          (predicted_of l to mine seat r.0, sym (same_standing S g seat to).1 ∙ r.1 ∙ (same_standing S g seat l).1),
      λ e. of_as l to mine seat (both.1 (same_of l to mine seat e)),
    )
