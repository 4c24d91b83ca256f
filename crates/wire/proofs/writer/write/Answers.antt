-- A short buffer is refused first.
use Rattle.std.proofs.Common.{rules}
use Rattle.std.proofs.lemmas.Bool.{lt-ltb}
use Rattle.wire.proofs.writer.write.Goals as goal

pub returns-then-buffer-lt-LONGEST : goal.returns-then-buffer-lt-LONGEST
returns-then-buffer-lt-LONGEST c = search (rules, lt-ltb)
