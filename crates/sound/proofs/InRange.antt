-- Tones that are not over. Assumes nothing.
use Rattle.std.proofs.Common.{◌≡◌, ℕ, ◌+◌, ◌<◌, ◌≤◌, cond, inl, inr, sym, ap, subst, arith}
use Rattle.std.proofs.lemmas.Bool.{cases_lt, le-ltb, lt-ltb}
use Rattle.court.specs.declared.cue.Cue.{Cue}
use Rattle.court.specs.declared.cue.Cue.TheVariants.{Nothing, Paddle, Wall, Point}
use Rattle.sound.specs.Tones.{Sounding, IsInRange, frames_of, silence, tone_after, tone_continued}

pub silence_in : IsInRange silence
silence_in = omega arith

-- a frame more of a tone, by whether it is over by then
one_more : (k : Cue) (d : ℕ) → d + 1 < frames_of k → tone_continued (record { kind = k; age = d }) ≡ record { kind = k; age = d + 1 }
one_more k d h = ap (λ b. cond b (record { kind = k; age = d + 1 }) silence) (lt-ltb (d + 1) (frames_of k) h)

none_more : (k : Cue) (d : ℕ) → frames_of k ≤ d + 1 → tone_continued (record { kind = k; age = d }) ≡ silence
none_more k d h = ap (λ b. cond b (record { kind = k; age = d + 1 }) silence) (le-ltb (d + 1) (frames_of k) h)

continued_in : (k : Cue) (d : ℕ) → IsInRange (tone_continued (record { kind = k; age = d }))
continued_in k d =
    elim (cases_lt (d + 1) (frames_of k)) [
      | inl m ↦ subst IsInRange (sym (one_more k d m)) (omega arith)
      | inr m ↦ subst IsInRange (sym (none_more k d m)) silence_in
    ]

pub tone_after_in : (t : Sounding) (cue : Cue) → IsInRange (tone_after t cue)
tone_after_in t Nothing = continued_in t.kind t.age
tone_after_in t Paddle = omega arith
tone_after_in t Wall = omega arith
tone_after_in t Point = omega arith
