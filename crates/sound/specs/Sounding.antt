-- A tone of the code as the definitions see it. Assumes nothing.
use Rattle.sound.specs.Tones.{Sounding}
use Rattle.sound.specs.declared.tone.Tone.{Tone}

abbrev pub sounding : Tone → Sounding
sounding t = record { kind = t.kind; age = t.age }
