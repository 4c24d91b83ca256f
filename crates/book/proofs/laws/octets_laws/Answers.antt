-- The laws of a book in octets, by their proofs.
use Rattle.book.proofs.Whole.{order_law, words_back, words_forth}
use Rattle.book.proofs.laws.octets_laws.Goals as goal

pub returns-clause-back : goal.returns-clause-back
returns-clause-back c = words_back

pub returns-clause-forth : goal.returns-clause-forth
returns-clause-forth c = words_forth

pub returns-clause-order : goal.returns-clause-order
returns-clause-order c = order_law
