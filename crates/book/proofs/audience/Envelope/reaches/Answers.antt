-- Some rule asks for the message.
use Rattle.std.proofs.Common.{◌∙◌, rules}
use Rattle.std.proofs.lemmas.Iterator.{YieldsList-from_slice}
use Rattle.std.proofs.lemmas.Iterator.Search.{any_from_yields_List}
use borrow.Author.Tests.{tests}
use Rattle.book.specs.Matching.{asks}
use Rattle.book.proofs.audience.Envelope.reaches.Goals as goal

pub returns-then-includes : goal.returns-then-includes
returns-then-includes c =
    let m = c.args.self in
    any_from_yields_List (asks m.audience m.sender m.subject c.args.member.now) _ _ _ c.any.ensures.ran (YieldsList-from_slice c.args.rules.now cc) (λ x b q k. search (rules, tests)) ∙ rw (← c.if-includes.ensures)
