-- What an insertion answers and leaves, by where the search ended.
use Rattle.std.proofs.Common.{rules}
use Rattle.table.specs.InOrder.{in_order}
use Rattle.table.proofs.Finding.{not_there, put, put_rises, there}
use Rattle.table.proofs.sorted.Sorted.insert.Goals as goal

pub invariant_of-self : goal.invariant_of-self
invariant_of-self g c = search (rules, put_rises g.met.R.Key.Key.order g.R.Record.keyed _ c.args.self.now.rising)

pub returns-in-Ok : goal.returns-in-Ok
returns-in-Ok g c = search (rules, there g.met.R.Key.Key.order g.R.Record.keyed _ _ _ c.in-Ok.ensures)

pub returns-then-insert_at : goal.returns-then-insert_at
returns-then-insert_at g c =
    let o = g.met.R.Key.Key.order in
    let up = c.args.self.now.rising in
    search (rules, not_there o g.R.Record.keyed _ up _ _ c.in-Err.ensures, put o g.R.Record.keyed (in_order c.args.self.now))

pub returns-else-insert_at : goal.returns-else-insert_at
returns-else-insert_at g c = search (rules, not_there g.met.R.Key.Key.order g.R.Record.keyed _ c.args.self.now.rising _ _ c.in-Err.ensures)
