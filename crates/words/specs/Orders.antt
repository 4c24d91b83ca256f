-- Rules are in a strict total order: the four fields tell them apart. Assumes nothing.
use Rattle.std.proofs.Common.{◌≡◌, refl, arith}
use Rattle.table.specs.Ordered.{Order}
use Rattle.table.proofs.Lexical.{by_digits}
use Rattle.words.specs.Keys.{rule_digits, rule_less}
use Rattle.words.specs.Records.{rule_kind_number, rule_of}
use Rattle.words.specs.declared.rule.Rule.{Rule}
use Rattle.words.specs.declared.rule_kind.RuleKind.{RuleKind}
use Rattle.words.specs.declared.rule_kind.RuleKind.TheVariants.{Subscription, Invitation}

same_kind : (k l : RuleKind) → rule_kind_number k ≡ rule_kind_number l → k ≡ l
same_kind Subscription Subscription e = refl
same_kind Subscription Invitation e = absurd (omega arith)
same_kind Invitation Subscription e = absurd (omega arith)
same_kind Invitation Invitation e = refl

pub apart : (u v : Rule) → rule_digits u ≡ rule_digits v → u ≡ v
apart u v e =
    let k = same_kind u.kind v.kind cc in
    let z : rule_of u.kind u.number u.role u.subject ≡ rule_of v.kind v.number v.role v.subject = cc in z

pub rule_order : Order rule_less
rule_order = by_digits rule_digits apart
