-- Each word that is read is counted with those before it, and in the end all are.
use Rattle.std.proofs.Common.{rules}
use Rattle.words.proofs.Listed.{all_read, next_read}
use Rattle.words.proofs.book_run.check.tally_words.Goals as goal

pub with-before-requires-clause-next : goal.with-before-requires-clause-next
with-before-requires-clause-next c =
    let i = c.loop-w.invariant in
    rw i.0 (next_read c.args.book.now c.loop-w.before.count c.in-Some.w _ _ i.1 c.in-Some.ensures.steps).1

pub loop-w-preserved : goal.loop-w-preserved
loop-w-preserved c =
    let i = c.loop-w.invariant in
    let n = next_read c.args.book.now c.loop-w.before.count c.in-Some.w _ _ i.1 c.in-Some.ensures.steps in
    (search rules, rw c.with-before.ensures.count n.2)

pub returns-clause-members : goal.returns-clause-members
returns-clause-members c = search (rules, all_read)

pub returns-clause-rules : goal.returns-clause-rules
returns-clause-rules c = search (rules, all_read)
