-- The record at the probe decides for all before it, since they ascend.
use Rattle.std.proofs.Common.{◌≡◌, true, sym, subst, ◌∙◌, arith}
use Rattle.table.proofs.Galloping.{met, passed}
use Rattle.table.proofs.gallop.find_ascending.Goals as goal

pub loop-x-preserved : goal.loop-x-preserved
loop-x-preserved g c =
    let less = g.R.Key.Key.less in
    let here = c.in-Some.ensures.lookup.3 in
    let below = subst (λ y. less y c.args.key.now ≡ true) c.key.ensures c.in-Less.ensures in
    record {
      before = passed g.met.R.Key.Key.order g.R.Record.keyed c.args.key.now c.args.records.now c.requires c.loop-x.probe here.0 c.in-Some.x.now here.1 below;
      within = omega (arith, here.0);
      ahead = omega arith;
    }

pub returns-in-Equal : goal.returns-in-Equal
returns-in-Equal g c =
    let here = c.in-Some.ensures.lookup.3 in
    met g.met.R.Key.Key.order g.R.Record.keyed c.args.key.now c.args.records.now c.requires c.loop-x.probe here.0 c.in-Some.x.now here.1 (sym c.key.ensures ∙ c.in-Equal.ensures)
