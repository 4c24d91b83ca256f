-- A record with the key stands exactly if the search found its place.
use Rattle.table.specs.Items.{items}
use Rattle.table.proofs.Finding.{decided}
use Rattle.table.proofs.ordered.Table.contains.Goals as goal

pub returns : goal.returns
returns g c r =
    let f = rw c.as_slice.ensures.value at c.find.ensures in
    cc (decided g.met.R.Key.Key.order g.R.Record.keyed (items c.args.self.now) r c.args.key.now c.find.result f)
