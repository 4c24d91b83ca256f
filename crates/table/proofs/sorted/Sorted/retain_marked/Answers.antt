-- What ascended ascends.
use Rattle.std.proofs.Common.{rules}
use Rattle.table.proofs.Places.{ascending_marked}
use Rattle.table.proofs.sorted.Sorted.retain_marked.Goals as goal

pub invariant_of-self : goal.invariant_of-self
invariant_of-self g c = search (rules, ascending_marked g.met.R.Key.Key.order g.R.Record.keyed)
