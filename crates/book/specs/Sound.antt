-- When members and rules are a book. Assumes nothing.
--     each f xs          f holds of every element
--     ports_apart ms     no port stands twice
--     holds n ms         some member has the number n
--     not_of n u         the rule u is of another number than n
--     Sound ms us        the members ms and the rules us are a book
use Rattle.std.specs.Prelude.{◌≡◌, ℕ, ◌≤◌, Bool, true, not, ◌&&◌, List, [], ◌∷◌, length, ◌==◌, nat_lt}
use Rattle.std.specs.List.{list_all}
use Rattle.table.specs.Ordered.{ascending, stands}
use Rattle.words.specs.declared.member.Member.{Member}
use Rattle.words.specs.declared.rule.Rule.{Rule}
use Rattle.words.specs.Keys.{member_key, rule_key, rule_less}
use Rattle.words.specs.Records.{valid_member, valid_rule}

abbrev pub each : {A : Type 0} → (A → Bool) → List A → Bool
each f xs = list_all f xs

abbrev pub other_port : ℕ → Member → Bool
other_port p m = not (m.port == p)

abbrev pub ports_apart : List Member → Bool
ports_apart [] = true
ports_apart (m ∷ ms) = each (other_port m.port) ms && ports_apart ms

abbrev pub holds : ℕ → List Member → Bool
holds n ms = stands nat_lt member_key n ms

abbrev pub owned : List Member → Rule → Bool
owned ms u = holds u.number ms

abbrev pub not_of : ℕ → Rule → Bool
not_of n u = not (u.number == n)

pub record Sound (ms : List Member) (us : List Rule) : Type 0 where
  pub numbers : ascending nat_lt member_key ms ≡ true
  pub rising : ascending rule_less rule_key us ≡ true
  pub members_valid : each valid_member ms ≡ true
  pub rules_valid : each valid_rule us ≡ true
  pub ports : ports_apart ms ≡ true
  pub owners : each (owned ms) us ≡ true
  pub few_members : length ms ≤ 15
  pub few_rules : length us ≤ 200
