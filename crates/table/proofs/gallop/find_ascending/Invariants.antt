-- Every key before low is below the one sought, and the next probe is at low or behind it.
use Rattle.std.proofs.Common.{◌≡◌, ◌-◌, ◌≤◌, length, true}
use Rattle.std.specs.List.{AllWithin}
use Rattle.table.proofs.gallop.find_ascending.Given as goal

abbrev pub invariant-loop-x : goal.invariant-loop-x
invariant-loop-x g l = record {
  before : AllWithin (λ y. g.R.Key.Key.less (g.R.Record.keyed y) l.key ≡ true) l.records 0 l.low;
  within : l.low ≤ length l.records;
  ahead : l.low ≤ l.probe;
}

abbrev pub decreases-loop-x : goal.decreases-loop-x
decreases-loop-x g l = length l.records - l.low
