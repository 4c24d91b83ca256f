-- The words before are read and fit; the others are to come.
use Rattle.std.proofs.Common.{◌≡◌, None, drop}
use Rattle.words.specs.Books.{first_wrong, fits, words_of}
use Rattle.words.specs.Runs.{words_left}
use Rattle.words.proofs.book_run.check.wrong_word.Given as goal

abbrev pub invariant-loop-w : goal.invariant-loop-w
invariant-loop-w l =
    (l.before.book.now ≡ l.fn.book)
    × (first_wrong (fits l.fn.book) l.before.count ≡ None)
    × (words_left l.w-iterator ≡ drop l.before.count (words_of l.fn.book))
