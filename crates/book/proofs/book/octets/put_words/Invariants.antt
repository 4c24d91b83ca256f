-- The words so far are written.
use Rattle.std.proofs.Common.{◌≡◌, length, take}
use Rattle.words.specs.Words.{words_octets}
use Rattle.book.specs.Buffers.{at_start}
use Rattle.book.specs.Octets.{book_words}
use Rattle.book.proofs.book.octets.put_words.Given as goal

abbrev pub invariant-loop-k : goal.invariant-loop-k
invariant-loop-k l = l.buffer ≡ at_start (words_octets (take (length l.yielded) (book_words l.members l.rules))) l.initial.buffer
