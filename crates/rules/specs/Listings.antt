-- A book as its two lists, and what a change does to it. Assumes nothing.
--     Listing           members and rules
--     blank             the empty book
--     has m b           the member m stands exactly so in b
--     standing u b      the rule u stands in b
--     seated_at p b     some member stands at the port p
--     accepts b c       the change c is taken in by b
--     applied b c       b with the change c taken in, or as it was
--     octets_of b       the words of b in octets
--     listing_in xs     the book in a run of octets
--     Whole b           b is a book: sound, with its counts in their limits
use Rattle.std.specs.Prelude.{ℕ, Bool, cond, List, [], nat_eq}
use Rattle.words.specs.declared.member.Member.{Member}
use Rattle.words.specs.declared.rule.Rule.{Rule}
use Rattle.words.specs.Keys.{rule_key, rule_less}
use Rattle.table.specs.Ordered.{stands}
use Rattle.book.specs.declared.change.Change.{Change}
use Rattle.book.specs.Asked.{stands_so}
use Rattle.book.specs.Changes.{taken, members_after, rules_after}
use Rattle.book.specs.Matching.{some}
use Rattle.book.specs.Octets.{book_octets, members_in, rules_in}
use Rattle.book.specs.Sound.{Sound}

pub record Listing : Type 0 where
  pub members : List Member
  pub rules : List Rule

abbrev pub listing : List Member → List Rule → Listing
listing ms us = record { members = ms; rules = us }

abbrev pub blank : Listing
blank = listing [] []

abbrev pub has : Member → Listing → Bool
has m b = stands_so m b.members

abbrev pub standing : Rule → Listing → Bool
standing u b = stands rule_less rule_key (rule_key u) b.rules

abbrev pub seated_at : ℕ → Listing → Bool
seated_at p b = some (λ m. nat_eq m.port p) b.members

abbrev pub accepts : Listing → Change → Bool
accepts b c = taken b.members b.rules c

abbrev pub changed : Listing → Change → Listing
changed b c = listing (members_after b.members c) (rules_after b.members b.rules c)

abbrev pub applied : Listing → Change → Listing
applied b c = cond (accepts b c) (changed b c) b

abbrev pub octets_of : Listing → List ℕ
octets_of b = book_octets b.members b.rules

abbrev pub listing_in : List ℕ → Listing
listing_in xs = listing (members_in xs) (rules_in xs)

abbrev pub Whole : Listing → Type 0
Whole b = Sound b.members b.rules
