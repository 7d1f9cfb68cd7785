use Rattle.sound.proofs.Writes.{frame_by_frame, lengths_are_told}
use Rattle.sound.proofs.statements.sounds_are_whole.Goals as goal

pub returns-clause-frames : goal.returns-clause-frames
returns-clause-frames c = frame_by_frame

pub returns-clause-lengths : goal.returns-clause-lengths
returns-clause-lengths c = lengths_are_told
