-- What the words so far carry stands.
use Rattle.std.proofs.Common.{◌≡◌, length}
use Rattle.table.specs.InOrder.{in_order}
use Rattle.words.specs.Books.{words_before}
use Rattle.book.specs.Octets.{carried}
use Rattle.book.proofs.filling.fill.Given as goal

abbrev pub invariant-loop-w : goal.invariant-loop-w
invariant-loop-w g l = in_order l.table ≡ carried g.R.InWord.carries g.R.InWord.within (words_before l.run.octets.now (length l.yielded))
