-- What the writer answers and leaves. Assumes nothing: these are definitions.
use Rattle.std.specs.Prelude.{ℕ, cond, List, ◌++◌, length, drop, Ok, Err, Result, nat_lt}
use Rattle.recording.specs.declared.write.Unwritten.{Unwritten}
use Rattle.recording.specs.declared.write.Unwritten.TheVariants.{Inputs, NoRoom}
use Rattle.recording.specs.Matches.{Match, match_bytes, match_length}

-- by the length of the lent inputs, the number of frames and the length of the lent slice
abbrev pub writing : ℕ → ℕ → ℕ → Result ℕ Unwritten
writing inputs frames room =
    cond (nat_lt inputs 2000000) (Err Inputs) (cond (nat_lt room (match_length frames)) (Err NoRoom) (Ok (match_length frames)))

-- what the slice holds then
abbrev pub written_over : ℕ → Match → List ℕ → List ℕ
written_over inputs m out =
    cond (nat_lt inputs 2000000) out
    (cond (nat_lt (length out) (match_length (length m.frames))) out (match_bytes m ++ drop (match_length (length m.frames)) out))
