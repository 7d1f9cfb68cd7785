-- A game whose state is a number of 32 bits. Assumes nothing: these are definitions.
use Rattle.std.specs.Prelude.{ℕ, ◌+◌, ◌*◌, ◌%◌, ◌^◌, ◌<◌, ◌++◌, replicate, nat_le}
use Rattle.byte_numbers.specs.Little.{little}
use Rattle.game.specs.Plain.{Game}
use Rattle.game.specs.Saved.{SavedRules}

abbrev pub trail_game : Game ℕ
trail_game = record { start = 1; frame = λ s a b. (s * 31 % 2 ^ 32 + (a * 17 + b)) % 2 ^ 32 }

abbrev pub trail_rules : SavedRules ℕ
trail_rules = record { game = trail_game; fits = λ a. nat_le a 15; coded = λ s. little 4 s ++ replicate 60 0; ok = λ s. s < 2 ^ 32 }
