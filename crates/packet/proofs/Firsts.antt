-- A packet's inputs as far as they are there. Assumes nothing.
use Rattle.std.proofs.Common.{◌≡◌, ℕ, ◌+◌, ◌-◌, ◌≤◌, min, List, length, take, drop, ap, ◌∙◌, arith, length-drop}
use Rattle.std.proofs.lemmas.List.{take_min}
use Rattle.packet.specs.Wire.{count_in, inputs_in}

pub inputs_there : (xs : List ℕ) (to : ℕ) → 10 ≤ length xs → to ≡ min (length xs) (10 + count_in xs) → take (to - 10) (drop 10 xs) ≡ inputs_in xs
inputs_there xs to h e =
    let m : to - 10 ≡ min (count_in xs) (length (drop 10 xs)) = simp length-drop (omega arith) in
    ap (λ k. take k (drop 10 xs)) m ∙ take_min (count_in xs) (drop 10 xs)
