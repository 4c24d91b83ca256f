-- A book as its two lists, first to last. Assumes nothing.
use Rattle.std.specs.Prelude.{List}
use Rattle.table.specs.InOrder.{in_order}
use Rattle.words.specs.declared.member.Member.{Member}
use Rattle.words.specs.declared.rule.Rule.{Rule}
use Rattle.book.specs.declared.book.Book.{Book}

abbrev pub members_of : Book → List Member
members_of b = in_order b.members

abbrev pub rules_of : Book → List Rule
rules_of b = in_order b.rules
