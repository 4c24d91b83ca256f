-- What a change does to a book. Assumes nothing.
--     own m ms u             the member m stands exactly so, and the rule u is of its number
--     taken ms us c          whether the change c is taken in
--     members_after ms c     the members then, where it is
--     rules_after ms us c    the rules then, where it is
use Rattle.std.specs.Prelude.{Bool, ◌&&◌, List, filter, Result, is_ok, ◌==◌, nat_lt}
use Rattle.table.specs.Ordered.{entered, stands, without}
use Rattle.words.specs.declared.member.Member.{Member}
use Rattle.words.specs.declared.rule.Rule.{Rule}
use Rattle.words.specs.Keys.{member_key, rule_key, rule_less}
use Rattle.words.specs.Records.{valid_member}
use Rattle.book.specs.declared.rule_refusal.RuleRefusal.{RuleRefusal}
use Rattle.book.specs.declared.change.Change.{Change}
use Rattle.book.specs.declared.change.Change.TheVariants.{Starting, Stopping, Enter, Withdraw}
use Rattle.book.specs.Asked.{addition, stands_so}
use Rattle.book.specs.Seating.{rules_with, with_member}
use Rattle.book.specs.Sound.{not_of}

abbrev pub own : Member → List Member → Rule → Bool
own m ms u = stands_so m ms && u.number == m.number

abbrev pub is_new : Result (Unit {0}) RuleRefusal → Bool
is_new r = is_ok r

abbrev pub taken : List Member → List Rule → Change → Bool
taken ms us (Starting m) = valid_member m
taken ms us (Stopping m) = stands_so m ms
taken ms us (Enter m u) = own m ms u && is_new (addition ms us u)
taken ms us (Withdraw m u) = own m ms u && stands rule_less rule_key (rule_key u) us

abbrev pub members_after : List Member → Change → List Member
members_after ms (Starting m) = with_member m ms
members_after ms (Stopping m) = without nat_lt member_key m.number ms
members_after ms (Enter m u) = ms
members_after ms (Withdraw m u) = ms

abbrev pub rules_after : List Member → List Rule → Change → List Rule
rules_after ms us (Starting m) = rules_with m ms us
rules_after ms us (Stopping m) = filter (not_of m.number) us
rules_after ms us (Enter m u) = entered rule_less rule_key u us
rules_after ms us (Withdraw m u) = without rule_less rule_key (rule_key u) us
