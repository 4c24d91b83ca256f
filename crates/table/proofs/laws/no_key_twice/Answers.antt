-- No key stands twice, by its proof.
use Rattle.table.proofs.Places.{distinct}
use Rattle.table.proofs.laws.no_key_twice.Goals as goal

pub returns : goal.returns
returns g c r i j d = distinct g.met.R.Key.Key.order g.R.Record.keyed c.args.records.now i j d r
