-- A member takes its seat: those with its number or at its port go first, with their rules. Assumes nothing.
--     stays m x               x has another number and another port than m
--     stayers m ms            those of ms that stay
--     with_member m ms        the members then
--     rules_with m ms us      the rules of those that stay
use Rattle.std.specs.Prelude.{Bool, not, ◌&&◌, List, filter, ◌==◌, nat_lt}
use Rattle.table.specs.Ordered.{entered}
use Rattle.words.specs.declared.member.Member.{Member}
use Rattle.words.specs.declared.rule.Rule.{Rule}
use Rattle.words.specs.Keys.{member_key}
use Rattle.book.specs.Sound.{other_port, owned}

abbrev pub stays : Member → Member → Bool
stays m x = not (x.number == m.number) && other_port m.port x

abbrev pub stayers : Member → List Member → List Member
stayers m ms = filter (stays m) ms

abbrev pub with_member : Member → List Member → List Member
with_member m ms = entered nat_lt member_key m (stayers m ms)

abbrev pub rules_with : Member → List Member → List Rule → List Rule
rules_with m ms us = filter (owned (stayers m ms)) us
