-- The key of the last record decides.
use Rattle.std.proofs.Common.{rules}
use Rattle.table.proofs.Places.{ascending_end}
use Rattle.table.proofs.Searching.{below}
use Rattle.table.proofs.sorted.Sorted.may_end.Goals as goal

pub returns-in-Some : goal.returns-in-Some
returns-in-Some g c = search (rules, below g.met.R.Key.Key.order, ascending_end g.met.R.Key.Key.order g.R.Record.keyed _ c.args.x.now c.in-Some.last.now c.args.self.now.rising)
