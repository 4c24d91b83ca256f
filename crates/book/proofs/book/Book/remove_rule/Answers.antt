-- A book without a rule is a book.
use Rattle.std.proofs.Common.{refl, rules}
use Rattle.book.proofs.Keeping.{rules_gone, sound_as, sound_of}
use Rattle.book.proofs.book.Book.remove_rule.Goals as goal

pub invariant_of-self : goal.invariant_of-self
invariant_of-self c =
    let b = c.args.self.now in
    let s = sound_as _ _ _ _ refl c.remove.ensures.items (rules_gone _ _ _ (sound_of b)) in
    search (rules, s)
