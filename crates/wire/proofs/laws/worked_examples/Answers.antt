-- Each example computes.
use Rattle.std.proofs.Common.{refl}
use Rattle.wire.specs.Reads.{read}
use Rattle.wire.proofs.laws.worked_examples.Goals as goal

pub returns : goal.returns
unfolding read
returns c = (refl, refl, refl, refl)
