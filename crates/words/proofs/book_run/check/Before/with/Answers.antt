-- One word more is counted.
use Rattle.std.proofs.Common.{rules}
use Rattle.words.specs.Books.{word_of}
use Rattle.words.specs.Records.{is_member, is_rule}
use Rattle.words.proofs.Books.{counted_more, last_more}
use Rattle.words.proofs.Search.{count_at_most}
use Rattle.words.proofs.book_run.check.Before.with.Goals as goal

pub overflow_add-result-2 : goal.overflow_add-result-2
overflow_add-result-2 c =
    let h = count_at_most (λ j. is_member (word_of c.args.self.now.book.now j)) c.args.self.now.count in
    search (rules, h)

pub overflow_add-result-3 : goal.overflow_add-result-3
overflow_add-result-3 c =
    let h = count_at_most (λ j. is_rule (word_of c.args.self.now.book.now j)) c.args.self.now.count in
    search (rules, h)

pub invariant_of-result-clause-ends : goal.invariant_of-result-clause-ends
invariant_of-result-clause-ends c = last_more _ _ _ c.requires.next

pub invariant_of-result-clause-members : goal.invariant_of-result-clause-members
invariant_of-result-clause-members c =
    counted_more is_member c.args.self.now.book.now c.args.self.now.count c.args.self.now.tally.members _ c.args.w (search rules) c.requires.next (search rules)

pub invariant_of-result-clause-rules : goal.invariant_of-result-clause-rules
invariant_of-result-clause-rules c =
    counted_more is_rule c.args.self.now.book.now c.args.self.now.count c.args.self.now.tally.rules _ c.args.w (search rules) c.requires.next (search rules)
