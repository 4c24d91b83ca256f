-- A run has as many words as it has octets by four.
use Rattle.std.proofs.Common.{rules}
use Rattle.words.proofs.Listed.{length-words_before}
use Rattle.words.proofs.book_run.words.Words.of.Goals as goal

pub returns-clause-count : goal.returns-clause-count
returns-clause-count c = search (rules, length-words_before)
