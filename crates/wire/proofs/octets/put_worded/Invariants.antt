-- The words before the turn's index are written, and the end is after them.
use Rattle.std.proofs.Common.{◌≡◌, ◌*◌, ◌++◌, take, drop}
use Rattle.words.specs.Words.{words_octets}
use Rattle.wire.proofs.octets.put_worded.Given as goal

abbrev pub invariant-loop-word : goal.invariant-loop-word
invariant-loop-word l = (l.end ≡ 4 * l.word-index) × (l.buffer ≡ words_octets (take l.word-index l.words) ++ drop l.end l.initial.buffer)
