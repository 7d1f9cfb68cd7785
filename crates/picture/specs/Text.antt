-- A picture as text. Assumes nothing: these are definitions.
use Rattle.std.specs.Prelude.{ℕ, ◌+◌, ◌%◌, cond, List, [], ◌∷◌, ◌++◌, ◌==◌}

-- `.` `|` `o` `#` `*` for 0 to 4, and `?` for what is no dot
abbrev pub character_of : ℕ → ℕ
character_of b = cond (b == 0) 46 (cond (b == 1) 124 (cond (b == 2) 111 (cond (b == 3) 35 (cond (b == 4) 42 63))))

-- dot k, and a line's end behind it where it is the last of its row
abbrev pub dot_text : ℕ → ℕ → List ℕ
dot_text k b = character_of b ∷ cond (k % 160 == 159) (10 ∷ []) []

-- the dots from dot k on
unfoldable pub text_from : ℕ → List ℕ → List ℕ
text_from k [] = []
text_from k (b ∷ bs) = dot_text k b ++ text_from (k + 1) bs
