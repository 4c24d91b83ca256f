-- The records that pass are left, and what ascended ascends.
use Rattle.std.proofs.Common.{◌≡◌, true, sym, subst, rules}
use Rattle.std.proofs.lemmas.Fn.{filter_same}
use Rattle.table.specs.Items.{items}
use Rattle.table.specs.Ordered.{ascending}
use Rattle.table.proofs.Places.{ascending_kept}
use Rattle.table.proofs.ordered.Table.retain.Goals as goal

pub returns : goal.returns
returns g c =
    let keeps = g.P.Keep.keeps c.args.which.now in
    let left = filter_same _ keeps _ (λ x b f k. search rules) _ _ c.retain.ensures.filtered in
    record {
      items = left;
      rising = λ r. subst (λ zs. ascending g.R.Key.Key.less g.R.Record.keyed zs ≡ true) (sym left) (ascending_kept g.met.R.Key.Key.order g.R.Record.keyed keeps (items c.args.self.now) r);
    }
