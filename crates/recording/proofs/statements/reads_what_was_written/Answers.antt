use Rattle.recording.proofs.Inverse.{written_read, read_written, one_at_most, refused_exactly}
use Rattle.recording.proofs.statements.reads_what_was_written.Goals as goal

pub returns : goal.returns
returns c = record { written = written_read; read = read_written; one = one_at_most; refused = refused_exactly }
