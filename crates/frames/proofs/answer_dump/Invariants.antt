-- Each turn takes a line off the dump.
use Rattle.std.proofs.Common.{length}
use Rattle.frames.proofs.answer_dump.Given as goal

abbrev pub decreases-loop-rest : goal.decreases-loop-rest
decreases-loop-rest l = length l.rest
