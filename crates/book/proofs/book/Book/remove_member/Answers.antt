-- A book without a member and its rules is a book.
use Rattle.std.proofs.Common.{rules}
use Rattle.book.proofs.Keeping.{member_gone, sound_as, sound_of}
use Rattle.book.proofs.book.Book.remove_member.Goals as goal

pub invariant_of-self : goal.invariant_of-self
invariant_of-self c =
    let b = c.args.self.now in
    let s = sound_as _ _ _ _ c.remove-was.ensures.items c.retain.ensures.items (member_gone _ _ c.args.number (sound_of b)) in
    search (rules, s)
