-- A book with one rule more is a book.
use Rattle.std.proofs.Common.{sym, rules}
use Rattle.book.proofs.Keeping.{rule_put, sound_of}
use Rattle.book.proofs.book.Book.add_rule.Goals as goal

pub invariant_of-self : goal.invariant_of-self
invariant_of-self c =
    let b = c.args.self.now in
    let s = rule_put _ _ _ c.insert.result c.args.rule (sound_of b) (sym c.if-not-is_valid.ensures) (sym c.if-not-contains.ensures) c.insert.ensures.answer c.insert.ensures.items in
    search (rules, s)
