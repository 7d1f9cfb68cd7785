-- A picture's text, dot by dot. Assumes nothing.
use Rattle.std.proofs.Common.{◌≡◌, ℕ, ◌+◌, ◌<◌, ◌≤◌, List, ◌∷◌, ◌++◌, length, get_or, drop, sym, ap, ◌∙◌, append_assoc, append-nil}
use Rattle.std.proofs.lemmas.List.{drop_all, drop_more}
use Rattle.picture.specs.Text.{dot_text, text_from}

-- t is the text before dot k, and u with it
pub text_more : (t u xs all : List ℕ) (k : ℕ) → k < length xs → u ≡ t ++ dot_text k (get_or xs k 0) → t ++ text_from k (drop k xs) ≡ all → u ++ text_from (k + 1) (drop (k + 1) xs) ≡ all
unfolding text_from
text_more t u xs all k h e inv =
    let d : drop k xs ≡ get_or xs k 0 ∷ drop (k + 1) xs = drop_more xs k 0 h in
    ap (λ s. s ++ text_from (k + 1) (drop (k + 1) xs)) e
    ∙ append_assoc t (dot_text k (get_or xs k 0)) (text_from (k + 1) (drop (k + 1) xs))
    ∙ sym (ap (λ ys. t ++ text_from k ys) d)
    ∙ inv

pub text_done : (t xs all : List ℕ) (k : ℕ) → length xs ≤ k → t ++ text_from k (drop k xs) ≡ all → t ≡ all
unfolding text_from
text_done t xs all k h inv = sym (ap (λ ys. t ++ text_from k ys) (drop_all k xs h) ∙ append-nil t) ∙ inv
