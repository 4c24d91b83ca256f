-- The first word goes; where there is none, nothing was left.
use Rattle.std.proofs.Common.{rules}
use Rattle.words.proofs.Listed.{next_listed}
use Rattle.words.proofs.book_run.words.WordsIterator.next.Goals as goal

pub returns-clause-steps : goal.returns-clause-steps
returns-clause-steps c = search (rules, next_listed)

pub returns-clause-goes : goal.returns-clause-goes
returns-clause-goes c = search (rules, next_listed)
