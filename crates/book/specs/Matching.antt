-- Who receives a message. Assumes nothing.
--     matches u s r           the rule u is for subject s from senders of role r
--     wants k a               rules of kind k are for such messages
--     in_audience a m         the member m is among those that the message is for
--     asks a f s m u          the rule u of the member m asks for the message
--     receives us a f s m     the member m receives it: one of its rules asks for it
--     recipients ms us a f s  those of ms that do, in their order, each once
use Rattle.std.specs.Prelude.{ℕ, Bool, true, false, ◌&&◌, ◌||◌, List, filter, ◌==◌}
use Rattle.std.specs.List.{list_any}
use Rattle.words.specs.declared.member.Member.{Member}
use Rattle.words.specs.declared.rule.Rule.{Rule}
use Rattle.words.specs.declared.rule_kind.RuleKind.{RuleKind}
use Rattle.words.specs.declared.rule_kind.RuleKind.TheVariants.{Subscription, Invitation}
use Rattle.book.specs.declared.audience.Audience.{Audience}
use Rattle.book.specs.declared.audience.Audience.TheVariants.{Published, Announced, Private}
use Rattle.words.specs.declared.module_id.ModuleId.{ModuleId}

-- subject 0 is every subject, domain role 0 every role
abbrev pub matches : Rule → ℕ → ℕ → Bool
matches u s r = (u.subject == 0 || u.subject == s) && (u.role == 0 || u.role == r)

-- a subscription for published messages, an invitation for the others
abbrev pub wants : RuleKind → Audience → Bool
wants Subscription Published = true
wants Subscription (Announced d) = false
wants Subscription (Private n) = false
wants Invitation Published = false
wants Invitation (Announced d) = true
wants Invitation (Private n) = true

abbrev pub in_audience : Audience → Member → Bool
in_audience Published m = true
in_audience (Announced d) m = d == 0 || m.role == d
in_audience (Private n) m = m.number == n

abbrev pub asks : Audience → ModuleId → ℕ → Member → Rule → Bool
asks a f s m u = u.number == m.number && (wants u.kind a && matches u s f.role)

abbrev pub some : {A : Type 0} → (A → Bool) → List A → Bool
some p xs = list_any p xs

abbrev pub receives : List Rule → Audience → ModuleId → ℕ → Member → Bool
receives us a f s m = in_audience a m && some (asks a f s m) us

abbrev pub recipients : List Member → List Rule → Audience → ModuleId → ℕ → List Member
recipients ms us a f s = filter (receives us a f s) ms
