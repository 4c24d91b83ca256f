-- A record with the key stands exactly if the search found its place.
use Rattle.std.proofs.Common.{rules}
use Rattle.table.proofs.Finding.{decided}
use Rattle.table.proofs.sorted.Sorted.contains.Goals as goal

pub returns : goal.returns
returns g c = search (rules, decided g.met.R.Key.Key.order g.R.Record.keyed _ c.args.self.now.rising)
