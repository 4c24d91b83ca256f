-- The words before are searched.
use Rattle.std.proofs.Common.{rules, tests, arith}
use Rattle.std.proofs.lemmas.Iterator.{YieldsList-from_take}
use Rattle.words.specs.Books.{numbered}
use Rattle.words.proofs.Listed.{any_of_first, listed}
use Rattle.words.proofs.book_run.check.Before.has_number.Goals as goal

pub returns : goal.returns
returns c =
    let xs = c.args.self.now.book.now in
    let k = c.args.self.now.count in
    any_of_first (numbered c.args.number) xs k c.any.new.self _ _ c.any.ensures.ran (omega arith) (YieldsList-from_take k (listed xs (cc)) (cc)) (λ x b q k. search (rules, tests))
