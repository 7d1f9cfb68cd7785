-- What the checks of a recording come to, both ways. Assumes nothing.
use Rattle.std.proofs.Common.{◌≡◌, ℕ, ◌+◌, ◌*◌, ◌/◌, ◌≤◌, List, length, Ok, None, ap, ◌∙◌, arith, length-drop, length-take}
use Rattle.std.proofs.lemmas.Bool.Decides.{nat_tests}
use Rattle.recording.specs.Matches.{marks}
use Rattle.recording.specs.Reading.{differing, mark_bytes, window_in, count_in, frames_in, states_in, due_in, head_checked, states_told, states_checked}
use Rattle.recording.proofs.Differences.{differs_nowhere, all_same}
use Rattle.recording.proofs.Frames.{length_marks}

-- ---- the header and the frames

pub record Headed (xs : List ℕ) : Type 0 where
  pub mark : differing xs mark_bytes ≡ None
  pub long : 8 ≤ length xs
  pub near : (1 ≤ window_in xs) × (window_in xs ≤ 60)
  pub few : count_in xs ≤ 1000000
  pub whole : 8 + count_in xs ≤ length xs

pub headed : (xs : List ℕ) → head_checked xs ≡ Ok tt → Headed xs
unfolding head_checked
headed xs e =
    record { mark = grind (arith, nat_tests); long = grind (arith, nat_tests); near = (grind (arith, nat_tests), grind (arith, nat_tests)); few = grind (arith, nat_tests); whole = grind (arith, nat_tests) }

pub heads : (xs : List ℕ) → Headed xs → head_checked xs ≡ Ok tt
unfolding head_checked
heads xs h = let m = h.mark in let n = h.near in grind (arith, nat_tests)

pub frames_there : (xs : List ℕ) → Headed xs → length (frames_in xs) ≡ count_in xs
frames_there xs h = let w = h.whole in simp (length-take, length-drop) (omega arith)

pub few_frames : (xs fs : List ℕ) → head_checked xs ≡ Ok tt → fs ≡ frames_in xs → length fs ≤ 1000000
few_frames xs fs e f = let h = headed xs e in let n = ap length f ∙ frames_there xs h in omega arith

-- ---- the states

pub length_due : (xs : List ℕ) → length (due_in xs) ≡ 64 * (count_in xs / 600)
length_due xs = length_marks (frames_in xs) (count_in xs / 600)

-- by the parts that the code has
pub due_as : (xs fs : List ℕ) → Headed xs → fs ≡ frames_in xs → marks fs (length fs / 600) ≡ due_in xs
due_as xs fs h e =
    let n : length fs ≡ count_in xs = ap length e ∙ frames_there xs h in
    ap (λ k. marks fs (k / 600)) n ∙ ap (λ zs. marks zs (count_in xs / 600)) e

pub told_as : (xs fs states : List ℕ) → Headed xs → fs ≡ frames_in xs → states ≡ states_in xs → (let due : List ℕ = marks fs (length fs / 600) in states_told (8 + length fs) (differing states due) (length states) (length due) ≡ states_checked xs)
unfolding states_checked
told_as xs fs states h e f =
    let n : length fs ≡ count_in xs = ap length e ∙ frames_there xs h in
    let due = due_as xs fs h e in
    cc

pub states_right : (xs : List ℕ) → states_checked xs ≡ Ok tt → states_in xs ≡ due_in xs
unfolding states_checked
states_right xs e =
    let none : differing (states_in xs) (due_in xs) ≡ None = grind (arith, nat_tests) in
    let long : length (states_in xs) ≡ length (due_in xs) = grind (arith, nat_tests) in
    all_same (states_in xs) (due_in xs) long none

pub states_fit : (xs : List ℕ) → states_in xs ≡ due_in xs → states_checked xs ≡ Ok tt
unfolding states_checked
states_fit xs e =
    let n : length (states_in xs) ≡ length (due_in xs) = ap length e in
    let none : differing (states_in xs) (due_in xs) ≡ None = differs_nowhere (states_in xs) (due_in xs) (λ i _ _ _. cc) in
    grind (arith, nat_tests)
