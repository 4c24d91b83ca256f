-- There are as many frames as lengths.
use Rattle.std.proofs.Common.{rules}
use Rattle.lines.proofs.Queues.{count_is}
use Rattle.lines.proofs.queue.Queue.count.Goals as goal

pub returns : goal.returns
returns c = search (rules, count_is)
