-- Which bytes are inputs. Assumes nothing: these are definitions.
use Rattle.std.specs.Prelude.{ℕ, Bool, List, nat_le, nat_lt}
use Rattle.std.specs.List.{list_all, position_or_len}

-- an input is 0 to 15
abbrev pub inputs_fit : List ℕ → Bool
inputs_fit xs = list_all (λ a. nat_le a 15) xs

-- where the first byte stands that is no input, or how many there are
abbrev pub first_bad : List ℕ → ℕ
first_bad xs = position_or_len (λ a. nat_lt 15 a) xs
