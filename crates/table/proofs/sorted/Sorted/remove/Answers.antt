-- What a removal answers and leaves, by where the search ended.
use Rattle.std.proofs.Common.{rules}
use Rattle.table.proofs.Finding.{nothing, not_there, taken, taken_rises, there}
use Rattle.table.proofs.sorted.Sorted.remove.Goals as goal

pub invariant_of-self : goal.invariant_of-self
invariant_of-self g c = search (rules, taken_rises g.met.R.Key.Key.order g.R.Record.keyed _ c.args.self.now.rising _ _ c.in-Ok.ensures)

pub returns-in-Ok : goal.returns-in-Ok
returns-in-Ok g c =
    let o = g.met.R.Key.Key.order in
    let up = c.args.self.now.rising in
    search (rules, there o g.R.Record.keyed _ _ _ c.in-Ok.ensures, taken o g.R.Record.keyed _ up _ _ c.in-Ok.ensures)

pub returns-in-Err : goal.returns-in-Err
returns-in-Err g c =
    let o = g.met.R.Key.Key.order in
    let up = c.args.self.now.rising in
    search (rules, not_there o g.R.Record.keyed _ up _ _ c.in-Err.ensures, nothing o g.R.Record.keyed _ up _ _ c.in-Err.ensures)
