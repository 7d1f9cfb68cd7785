use Rattle.recording.proofs.Readings.{taken}
use Rattle.recording.proofs.held.Recording.read.Goals as goal

pub returns : goal.returns
returns c =
    let h = taken c.args.bytes.now c.in_ok-recording.recording (λ i. (c.type_inv.bytes i).fits) c.in_ok-recording.ensures c.in_ok-check_states.ensures in
    record { value = h.0; proper = h.1; right = h.2; back = h.3 }
