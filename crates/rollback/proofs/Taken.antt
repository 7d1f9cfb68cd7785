-- What an event came to. Assumes nothing.
use Rattle.std.proofs.Common.{◌≡◌, ℕ, refl}
use Rattle.rollback.specs.declared.outcome.Outcome.TheVariants.{Taken}

-- what was taken was taken with some number of frames
pub is_taken : (m : ℕ) → ((n : ℕ) → Taken m ≡ Taken n → ⊥) → ⊥
is_taken m none = none m refl
