-- The names of kinds in plain words. Assumes nothing.
--     message_name k     of a kind of message
--     rule_name k        of a kind of rule
use Rattle.std.specs.Prelude.{ℕ, List, codes}
use Rattle.words.specs.declared.message_kind.MessageKind.{MessageKind}
use Rattle.words.specs.declared.message_kind.MessageKind.TheVariants.{Published, Announced, Private}
use Rattle.words.specs.declared.rule_kind.RuleKind.{RuleKind}
use Rattle.words.specs.declared.rule_kind.RuleKind.TheVariants.{Subscription, Invitation}

abbrev pub message_name : MessageKind → List ℕ
message_name Published = codes "published"
message_name Announced = codes "announced"
message_name Private = codes "private"

abbrev pub rule_name : RuleKind → List ℕ
rule_name Subscription = codes "subscription"
rule_name Invitation = codes "invitation"
