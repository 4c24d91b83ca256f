-- What orders members and rules: the number; kind, number, role and subject. Assumes nothing.
use Rattle.std.specs.Prelude.{ℕ, Bool, List, [], ◌∷◌}
use Rattle.table.specs.Digits.{lex}
use Rattle.words.specs.Records.{rule_kind_number}
use Rattle.words.specs.declared.member.Member.{Member}
use Rattle.words.specs.declared.rule.Rule.{Rule}

abbrev pub member_key : Member → ℕ
member_key m = m.number

-- a rule is its own key
abbrev pub rule_key : Rule → Rule
rule_key u = u

abbrev pub rule_digits : Rule → List ℕ
rule_digits u = rule_kind_number u.kind ∷ u.number ∷ u.role ∷ u.subject ∷ []

abbrev pub rule_less : Rule → Rule → Bool
rule_less u v = lex (rule_digits u) (rule_digits v)
