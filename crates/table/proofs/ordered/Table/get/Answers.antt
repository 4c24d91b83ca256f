-- The record at the place where the search ended, or none.
use Rattle.std.proofs.Common.{rules}
use Rattle.table.specs.Items.{items}
use Rattle.table.proofs.Finding.{got, got_none}
use Rattle.table.proofs.ordered.Table.get.Goals as goal

pub returns-in-Ok : goal.returns-in-Ok
returns-in-Ok g c r =
    let f = rw c.as_slice-records.ensures.value at c.in-Ok.ensures in
    search (rules, got g.met.R.Key.Key.order g.R.Record.keyed (items c.args.self.now) c.args.key.now c.in-Ok.at c.index-records-at.result f)

pub returns-in-Err : goal.returns-in-Err
returns-in-Err g c r =
    let f = rw c.as_slice-records.ensures.value at c.in-Err.ensures in
    got_none g.met.R.Key.Key.order g.R.Record.keyed (items c.args.self.now) r c.args.key.now _ f
