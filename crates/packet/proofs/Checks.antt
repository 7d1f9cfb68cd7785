-- What the checks of a packet come to, both ways. Assumes nothing.
use Rattle.std.proofs.Common.{◌≡◌, ℕ, ◌+◌, ◌≤◌, true, List, [], ◌∷◌, length, get_or, Ok, refl, arith}
use Rattle.std.proofs.lemmas.Bool.Decides.{nat_tests}
use Rattle.packet.specs.Inputs.{inputs_fit, first_bad}
use Rattle.packet.specs.Wire.{first_in, count_in, ack_in, inputs_in, start_checked, rest_checked}

pub record Started (xs : List ℕ) : Type 0 where
  pub long : 6 ≤ length xs
  pub mark : get_or xs 0 0 ≡ 72
  pub whole : first_in xs + count_in xs ≤ 1000000
  pub few : count_in xs ≤ 120

pub record Ended (own : ℕ) (xs : List ℕ) : Type 0 where
  pub exact : length xs ≡ 10 + count_in xs
  pub known : ack_in xs ≤ own
  pub fit : length (inputs_in xs) ≤ first_bad (inputs_in xs)

pub started : (xs : List ℕ) → start_checked xs ≡ Ok tt → Started xs
unfolding start_checked
started xs e = record { long = grind (arith, nat_tests); mark = grind (arith, nat_tests); whole = grind (arith, nat_tests); few = grind (arith, nat_tests) }

pub starts : (xs : List ℕ) → Started xs → start_checked xs ≡ Ok tt
unfolding start_checked
starts xs h = grind (arith, nat_tests)

pub ended : (own : ℕ) (xs : List ℕ) → rest_checked own xs ≡ Ok tt → Ended own xs
unfolding rest_checked
ended own xs e = record { exact = grind (arith, nat_tests); known = grind (arith, nat_tests); fit = grind (arith, nat_tests) }

pub ends : (own : ℕ) (xs : List ℕ) → Ended own xs → rest_checked own xs ≡ Ok tt
unfolding rest_checked
ends own xs h = grind (arith, nat_tests)

-- all bytes are inputs where none is the first that is not
pub fit_from_bad : (xs : List ℕ) → length xs ≤ first_bad xs → inputs_fit xs ≡ true
fit_from_bad [] h = refl
fit_from_bad (x ∷ xs) h =
    let rest : length xs ≤ first_bad xs → inputs_fit xs ≡ true = fit_from_bad xs in
    grind (arith, nat_tests)

pub bad_from_fit : (xs : List ℕ) → inputs_fit xs ≡ true → first_bad xs ≡ length xs
bad_from_fit [] h = refl
bad_from_fit (x ∷ xs) h =
    let rest : inputs_fit xs ≡ true → first_bad xs ≡ length xs = bad_from_fit xs in
    grind (arith, nat_tests)
