-- What a book answers, and what an added rule leaves. Assumes nothing.
--     seated p ms         who stands at the port p
--     same_member m n     the same number, role and port
--     stands_so m ms      the member m stands exactly so
--     refusal e           why a rule does not enter that the table does not take
--     addition ms us u    what adding the rule u answers
--     added a vs us       the rules then: vs where it is new
use Rattle.std.specs.Prelude.{ℕ, Bool, false, cond, ◌&&◌, List, length, Some, None, Option, Ok, Err, Result, ◌==◌, nat_lt}
use Rattle.std.specs.List.{find}
use Rattle.table.specs.Entries.{after}
use Rattle.table.specs.Ordered.{looked_up, stands}
use Rattle.words.specs.declared.member.Member.{Member}
use Rattle.words.specs.declared.rule.Rule.{Rule}
use Rattle.words.specs.Keys.{member_key, rule_key, rule_less}
use Rattle.words.specs.Records.{valid_rule}
use Rattle.table.specs.declared.insert_error.InsertError.{InsertError}
use Rattle.table.specs.declared.insert_error.InsertError.TheVariants as entering
use Rattle.book.specs.declared.rule_refusal.RuleRefusal.{RuleRefusal}
use Rattle.book.specs.declared.rule_refusal.RuleRefusal.TheVariants.{Invalid, Standing, Full}
use Rattle.book.specs.Sound.{holds}

abbrev pub seated : ℕ → List Member → Option Member
seated p ms = find (λ m. m.port == p) ms

abbrev pub same_member : Member → Member → Bool
same_member m n = m.number == n.number && (m.role == n.role && m.port == n.port)

abbrev pub just_so : Member → Option Member → Bool
just_so m None = false
just_so m (Some n) = same_member n m

abbrev pub stands_so : Member → List Member → Bool
stands_so m ms = just_so m (looked_up nat_lt member_key m.number ms)

abbrev pub refusal : InsertError → RuleRefusal
refusal entering.Standing = Standing
refusal entering.Full = Full

abbrev pub addition : List Member → List Rule → Rule → Result (Unit {0}) RuleRefusal
addition ms us u =
    cond (valid_rule u && holds u.number ms)
    (cond (stands rule_less rule_key (rule_key u) us) (Err Standing) (cond (nat_lt (length us) 200) (Ok tt) (Err Full)))
    (Err Invalid)

abbrev pub added : Result (Unit {0}) RuleRefusal → List Rule → List Rule → List Rule
added a vs us = after a vs us
