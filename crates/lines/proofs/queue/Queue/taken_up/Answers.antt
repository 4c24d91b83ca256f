-- The octets, and 2 more for each length.
use Rattle.std.proofs.Common.{arith}
use Rattle.lines.proofs.Queues.{taken_up_is}
use Rattle.lines.specs.RulesLemmas.{taken_is}
use Rattle.lines.proofs.queue.Queue.taken_up.Goals as goal

pub overflow_add-result : goal.overflow_add-result
overflow_add-result c = omega (arith, taken_is)

pub returns-clause-value : goal.returns-clause-value
returns-clause-value c = omega (arith, taken_up_is)

pub returns-clause-bound : goal.returns-clause-bound
returns-clause-bound c = omega (arith, taken_is)
