-- The words before are read and counted; the others are to come.
use Rattle.std.proofs.Common.{◌≡◌, drop}
use Rattle.words.specs.Books.{words_of}
use Rattle.words.specs.Runs.{words_left}
use Rattle.words.proofs.book_run.check.tally_words.Given as goal

abbrev pub invariant-loop-w : goal.invariant-loop-w
invariant-loop-w l =
    (l.before.book.now ≡ l.fn.book)
    × (words_left l.w-iterator ≡ drop l.before.count (words_of l.fn.book))
