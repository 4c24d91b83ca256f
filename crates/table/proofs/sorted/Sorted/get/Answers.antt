-- The record at the place where the search ended, or none.
use Rattle.std.proofs.Common.{rules}
use Rattle.table.specs.InOrder.{in_order}
use Rattle.table.proofs.Finding.{got, got_none}
use Rattle.table.proofs.sorted.Sorted.get.Goals as goal

pub returns-in-Ok : goal.returns-in-Ok
returns-in-Ok g c = search (rules, got g.met.R.Key.Key.order g.R.Record.keyed (in_order c.args.self.now))

pub returns-in-Err : goal.returns-in-Err
returns-in-Err g c = search (rules, got_none g.met.R.Key.Key.order g.R.Record.keyed _ c.args.self.now.rising _ _ c.in-Err.ensures)
