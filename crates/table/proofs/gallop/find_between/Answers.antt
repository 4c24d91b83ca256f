-- Each call of the closure compares one key with the key that is sought, so the halving finds its place in the part.
use Rattle.std.proofs.Common.{Ok, Err, rules}
use Rattle.std.proofs.lemmas.Fn.{always_returns_same}
use Rattle.table.proofs.Searching.{compared, compared_is}
use Rattle.table.proofs.Galloping.{found_between}
use Rattle.table.proofs.gallop.find_between.Goals as goal

pub returns-in-Ok : goal.returns-in-Ok
returns-in-Ok g c =
    let o = g.met.R.Key.Key.order in
    let key = g.R.Record.keyed in
    let p = c.in-Ok.ensures.position (λ x. compared g.R.Key.Key.less (key x) c.args.key.now) (always_returns_same _ _ _ (λ a r f' called. search (rules, compared_is o))) in
    found_between g.R.Key.Key.less key c.args.key.now c.args.records.now c.args.low c.args.high c.requires.forward c.requires.within c.requires.before c.requires.behind o c.requires.ascends (Ok c.in-Ok.at) c.in-Ok.ensures.bound p

pub returns-in-Err : goal.returns-in-Err
returns-in-Err g c =
    let o = g.met.R.Key.Key.order in
    let key = g.R.Record.keyed in
    let p = c.in-Err.ensures.position (λ x. compared g.R.Key.Key.less (key x) c.args.key.now) (always_returns_same _ _ _ (λ a r f' called. search (rules, compared_is o))) in
    found_between g.R.Key.Key.less key c.args.key.now c.args.records.now c.args.low c.args.high c.requires.forward c.requires.within c.requires.before c.requires.behind o c.requires.ascends (Err c.in-Err.at) c.in-Err.ensures.bound p
