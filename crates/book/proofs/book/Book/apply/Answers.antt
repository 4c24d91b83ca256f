-- Where no such rule stands, none goes.
use Rattle.book.specs.Lists.{rules_of}
use Rattle.book.proofs.Keeping.{gone_or_so}
use Rattle.book.proofs.book.Book.apply.Goals as goal

pub returns-then-owns-2-clause-rules : goal.returns-then-owns-2-clause-rules
returns-then-owns-2-clause-rules c =
    rw c.in-Withdraw.is (gone_or_so _ c.in-Withdraw.rule (rules_of c.args.self.now) _ c.remove_rule.ensures.answer c.remove_rule.ensures.rules)
