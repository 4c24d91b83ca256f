-- The first member at the port.
use Rattle.std.proofs.Common.{eqb, ◌∙◌, rules}
use Rattle.std.proofs.lemmas.Iterator.{YieldsList-from_slice}
use Rattle.std.proofs.lemmas.Iterator.Search.{find_from_yields_List}
use borrow.Author.Tests.{tests}
use Rattle.book.specs.Lists.{members_of}
use Rattle.book.proofs.book.Book.at_port.Goals as goal

pub returns : goal.returns
returns c =
    c.copied.ensures ∙ find_from_yields_List (λ m. eqb m.port c.args.port) _ _ c.find.result c.find.ensures.ran (YieldsList-from_slice (members_of c.args.self.now) cc) (λ x b q k. search (rules, tests))
