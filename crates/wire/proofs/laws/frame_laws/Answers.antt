-- The laws of frames, by their proofs.
use Rattle.wire.proofs.Forth.{read_written}
use Rattle.wire.proofs.Both.{written_read, read-carried}
use Rattle.wire.proofs.laws.frame_laws.Goals as goal

pub returns : goal.returns
returns c = record { forth = read_written; back = written_read; carries = read-carried }
