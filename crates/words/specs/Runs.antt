-- A book's run in a frame, by its octets, and the words that are read of one. Assumes nothing.
use Rattle.std.specs.Prelude.{ℕ, List, Ok, Err, Result}
use Rattle.words.specs.declared.fault.WordFault.{WordFault}
use Rattle.words.specs.declared.book_run.BookRun.{BookRun}
use Rattle.words.specs.declared.book_run.words.Words.{Words}
use Rattle.words.specs.Books.{words_of}

abbrev pub seen_book : Result BookRun WordFault → Result (List ℕ) WordFault
seen_book (Ok b) = Ok b.octets.now
seen_book (Err e) = Err e

-- the words that are still to come
abbrev pub words_left : Words → List ℕ
words_left s = words_of s.rest.now
