-- Every number before this one is held; the members ahead are ever fewer.
use Rattle.book.specs.Lists.{members_of}
use Rattle.book.proofs.Cycle.{ahead, place, Kept}
use Rattle.book.proofs.book.Book.free_number.Given as goal

abbrev pub invariant-loop-number : goal.invariant-loop-number
invariant-loop-number l = Kept (members_of l.self) l.last l.number (place l.last l.number)

abbrev pub decreases-loop-number : goal.decreases-loop-number
decreases-loop-number l = ahead l.last (place l.last l.number) (members_of l.self)
