-- What a removal answers and leaves, by where the search ended.
use Rattle.std.proofs.Common.{rules}
use Rattle.table.specs.Items.{items}
use Rattle.table.proofs.Finding.{nothing, not_there, taken, taken_rises, there}
use Rattle.table.proofs.ordered.Table.remove.Goals as goal

pub returns-in-Ok : goal.returns-in-Ok
returns-in-Ok g c =
    let o = g.met.R.Key.Key.order in
    let key = g.R.Record.keyed in
    let xs = items c.args.self.now in
    let f = rw c.as_slice.ensures at c.in-Ok.ensures in
    record {
      answer = λ r. search (rules, there o key xs _ _ f);
      items = λ r. search (rules, taken o key xs r _ _ f);
      rising = λ r. search (rules, taken_rises o key xs r _ _ f);
    }

pub returns-in-Err : goal.returns-in-Err
returns-in-Err g c =
    let o = g.met.R.Key.Key.order in
    let key = g.R.Record.keyed in
    let xs = items c.args.self.now in
    let f = rw c.as_slice.ensures at c.in-Err.ensures in
    record {
      answer = λ r. search (rules, not_there o key xs r _ _ f);
      items = λ r. nothing o key xs r _ _ f;
      rising = λ r. r;
    }
