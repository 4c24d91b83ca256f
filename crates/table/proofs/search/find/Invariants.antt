-- Every key before the turn's index is below the one sought.
use Rattle.std.proofs.Common.{◌≡◌, true}
use Rattle.std.specs.List.{AllWithin}
use Rattle.table.proofs.search.find.Given as goal

abbrev pub invariant-loop-i : goal.invariant-loop-i
invariant-loop-i g l = AllWithin (λ y. g.R.Key.Key.less (g.R.Record.keyed y) l.key ≡ true) l.records 0 l.i
