-- The first word that does not fit ends the loop; while all fit, the words are read on.
use Rattle.std.proofs.Common.{sym, rules}
use Rattle.words.specs.Books.{fits, words_in}
use Rattle.words.proofs.Books.{wrong_found}
use Rattle.words.proofs.Listed.{all_read, next_read}
use Rattle.words.proofs.Search.{first_found, none_more}
use Rattle.words.proofs.Sound.{sound_small}
use Rattle.words.proofs.book_run.check.wrong_word.Goals as goal

pub fits-requires : goal.fits-requires
fits-requires c =
    let i = c.loop-w.invariant in
    rw i.0 (next_read c.args.book.now c.loop-w.before.count c.in-Some.w _ _ i.2 c.in-Some.ensures.steps).1

pub with-before-requires-clause-next : goal.with-before-requires-clause-next
with-before-requires-clause-next c =
    let i = c.loop-w.invariant in
    rw i.0 (next_read c.args.book.now c.loop-w.before.count c.in-Some.w _ _ i.2 c.in-Some.ensures.steps).1

pub returns-then-not-fits-clause-first : goal.returns-then-not-fits-clause-first
returns-then-not-fits-clause-first c =
    let i = c.loop-w.invariant in
    let xs = c.args.book.now in
    let k = c.loop-w.before.count in
    let n = next_read xs k c.in-Some.w _ _ i.2 c.in-Some.ensures.steps in
    wrong_found xs k (first_found (fits xs) (words_in xs) k n.0 i.1 (rw i.0 at (sym c.if-not-fits.ensures)))

pub loop-w-preserved : goal.loop-w-preserved
loop-w-preserved c =
    let i = c.loop-w.invariant in
    let xs = c.args.book.now in
    let k = c.loop-w.before.count in
    let n = next_read xs k c.in-Some.w _ _ i.2 c.in-Some.ensures.steps in
    (search rules, rw c.with-before.ensures.count (none_more (fits xs) k i.1 (rw i.0 at (sym c.if-not-fits.ensures))), rw c.with-before.ensures.count n.2)

pub returns-then-book-eq0-clause-first : goal.returns-then-book-eq0-clause-first
returns-then-book-eq0-clause-first c = search (rules, all_read)

pub returns-then-book-eq0-clause-few : goal.returns-then-book-eq0-clause-few
returns-then-book-eq0-clause-few c = search (rules, all_read, sound_small)

pub returns-else-book-eq0-clause-first : goal.returns-else-book-eq0-clause-first
returns-else-book-eq0-clause-first c = search (rules, all_read)
