-- What an insertion answers and leaves, by where the search ended.
use Rattle.std.proofs.Common.{rules}
use Rattle.table.specs.Items.{items}
use Rattle.table.proofs.Finding.{not_there, put, put_rises, there}
use Rattle.table.proofs.ordered.Table.insert.Goals as goal

pub returns-in-Ok-clause-answer : goal.returns-in-Ok-clause-answer
returns-in-Ok-clause-answer g c r =
    let f = rw c.as_slice.ensures at c.in-Ok.ensures in
    search (rules, there g.met.R.Key.Key.order g.R.Record.keyed (items c.args.self.now) _ _ f)

pub returns-then-insert_at : goal.returns-then-insert_at
returns-then-insert_at g c =
    let o = g.met.R.Key.Key.order in
    let key = g.R.Record.keyed in
    let xs = items c.args.self.now in
    let f = rw c.as_slice.ensures at c.in-Err.ensures in
    record {
      answer = λ r. search (rules, not_there o key xs r _ _ f);
      items = search (rules, put o key xs, f);
      rising = λ r. search (rules, put_rises o key xs r, f);
    }

pub returns-else-insert_at-clause-answer : goal.returns-else-insert_at-clause-answer
returns-else-insert_at-clause-answer g c r =
    let f = rw c.as_slice.ensures at c.in-Err.ensures in
    search (rules, not_there g.met.R.Key.Key.order g.R.Record.keyed (items c.args.self.now) r _ _ f)
