use Rattle.std.proofs.Common.{◌≡◌, ◌*◌, ◌++◌, drop}
use Rattle.sound.specs.Sound.{bytes_of, samples_from}
use Rattle.sound.proofs.samples.write_samples.Given as goal

abbrev pub invariant-loop-j : goal.invariant-loop-j
invariant-loop-j l = l.part ≡ bytes_of (samples_from l.tone.kind (800 * l.tone.age) l.j) ++ drop (2 * l.j) l.initial.part
