-- Members, applicants, rules and reasons, to and from their words; the Module ID. Assumes nothing.
--     Member ..             the fields of a record, whatever they are
--     member_of ..           the record of these fields
--     valid_member ..        whether a record may stand
--     member_word ..         the word of a record
--     is_member ..           whether a word carries such a record
--     member_in w ..         that record
--     read_member w at ..    that record, or a fault at the word's place
--     module_id n u r        the Module ID of number n, unit u and role r
use Rattle.std.specs.Prelude.{ℕ, ◌+◌, ◌*◌, ◌/◌, ◌%◌, Bool, cond, ◌&&◌, ◌||◌, Some, None, Ok, Err, Option, Result, ◌==◌}
use Rattle.words.specs.Ranges.{member_valid, applicant_valid, module_valid, rule_valid}
use Rattle.words.specs.Words.{word, kind_of, number_of, role_of, tail_of}
use Rattle.words.specs.declared.fault.WordFault.{WordFault}
use Rattle.words.specs.declared.member.Member.{Member}
use Rattle.words.specs.declared.applicant.Applicant.{Applicant}
use Rattle.words.specs.declared.module_id.ModuleId.{ModuleId}
use Rattle.words.specs.declared.rule.Rule.{Rule}
use Rattle.words.specs.declared.rule_kind.RuleKind.{RuleKind}
use Rattle.words.specs.declared.rule_kind.RuleKind.TheVariants.{Subscription, Invitation}
use Rattle.words.specs.declared.reason.Reason.{Reason}
use Rattle.words.specs.declared.reason.Rejected.{Rejected}
use Rattle.words.specs.declared.reason.Rejected.TheVariants.{Invite, Subscribe}
use Rattle.words.specs.declared.reason.Cause.{Cause}
use Rattle.words.specs.declared.reason.Cause.TheVariants.{RuleListFull}

abbrev pub member_of : ℕ → ℕ → ℕ → Member
member_of n r p = record { number = n; role = r; port = p }

abbrev pub applicant_of : ℕ → ℕ → Applicant
applicant_of r p = record { role = r; port = p }

abbrev pub module_by : ℕ → ℕ → ModuleId
module_by n r = record { number = n; role = r }

abbrev pub rule_of : RuleKind → ℕ → ℕ → ℕ → Rule
rule_of k n r s = record { kind = k; number = n; role = r; subject = s }

abbrev pub valid_member : Member → Bool
valid_member m = member_valid m.number m.role m.port

abbrev pub valid_applicant : Applicant → Bool
valid_applicant a = applicant_valid a.role a.port

abbrev pub valid_module : ModuleId → Bool
valid_module m = module_valid m.number m.role

abbrev pub valid_rule : Rule → Bool
valid_rule u = rule_valid u.kind u.number u.role u.subject

abbrev pub rule_kind_number : RuleKind → ℕ
rule_kind_number Subscription = 2
rule_kind_number Invitation = 3

-- the type of the frame that was rejected
abbrev pub rejected_type : Rejected → ℕ
rejected_type Invite = 8
rejected_type Subscribe = 24

abbrev pub cause_number : Cause → ℕ
cause_number RuleListFull = 1

-- the kind, the request and the cause of these numbers
abbrev pub rule_kind_numbered : ℕ → Option RuleKind
rule_kind_numbered n = cond (n == 2) (Some Subscription) (cond (n == 3) (Some Invitation) None)

abbrev pub rejected_numbered : ℕ → Option Rejected
rejected_numbered n = cond (n == 8) (Some Invite) (cond (n == 24) (Some Subscribe) None)

abbrev pub cause_numbered : ℕ → Option Cause
cause_numbered n = cond (n == 1) (Some RuleListFull) None

abbrev pub member_word : Member → ℕ
member_word m = word 1 m.number m.role m.port

abbrev pub applicant_word : Applicant → ℕ
applicant_word a = word 1 0 a.role a.port

abbrev pub rule_word : Rule → ℕ
rule_word u = word (rule_kind_number u.kind) u.number u.role u.subject

abbrev pub reason_word : Reason → ℕ
reason_word y = word 4 0 (rejected_type y.rejected) (cause_number y.cause)

abbrev pub is_member : ℕ → Bool
is_member w = kind_of w == 1 && member_valid (number_of w) (role_of w) (tail_of w)

abbrev pub is_applicant : ℕ → Bool
is_applicant w = kind_of w == 1 && (number_of w == 0 && applicant_valid (role_of w) (tail_of w))

abbrev pub is_rule_of : RuleKind → ℕ → Bool
is_rule_of k w = kind_of w == rule_kind_number k && rule_valid k (number_of w) (role_of w) (tail_of w)

abbrev pub is_rule : ℕ → Bool
is_rule w = is_rule_of Subscription w || is_rule_of Invitation w

abbrev pub is_reason : ℕ → Bool
is_reason w =
    (kind_of w == 4)
    && (number_of w == 0 && ((role_of w == 8 || role_of w == 24) && tail_of w == 1))

abbrev pub read_if : {A : Type 0} → Bool → A → ℕ → Result A WordFault
read_if b x at = cond b (Ok x) (Err (record { place = at }))

-- the record in a word that carries one
abbrev pub member_in : ℕ → Member
member_in w = member_of (number_of w) (role_of w) (tail_of w)

abbrev pub applicant_in : ℕ → Applicant
applicant_in w = applicant_of (role_of w) (tail_of w)

-- of the kind that is the word's
abbrev pub rule_in : ℕ → Rule
rule_in w = rule_of (cond (kind_of w == 2) Subscription Invitation) (number_of w) (role_of w) (tail_of w)

abbrev pub reason_in : ℕ → Reason
reason_in w = record { rejected = cond (role_of w == 8) Invite Subscribe; cause = RuleListFull }

abbrev pub read_member : ℕ → ℕ → Result Member WordFault
read_member w at = read_if (is_member w) (member_in w) at

abbrev pub read_applicant : ℕ → ℕ → Result Applicant WordFault
read_applicant w at = read_if (is_applicant w) (applicant_in w) at

abbrev pub read_rule : RuleKind → ℕ → ℕ → Result Rule WordFault
read_rule k w at =
    read_if (is_rule_of k w) (rule_of k (number_of w) (role_of w) (tail_of w)) at

abbrev pub read_reason : ℕ → ℕ → Result Reason WordFault
read_reason w at =
    read_if (is_reason w) (reason_in w) at

abbrev pub module_id : ℕ → ℕ → ℕ → ℕ
module_id n u r = n + 256 * u + 16777216 * r

-- there is one unit, 0
abbrev pub id_of : ModuleId → ℕ
id_of m = module_id m.number 0 m.role

abbrev pub module_of : Member → ModuleId
module_of m = module_by m.number m.role

abbrev pub is_module : ℕ → Bool
is_module f = f / 256 % 65536 == 0 && module_valid (f % 256) (f / 16777216)

-- the number and the role in a reference
abbrev pub module_in : ℕ → ModuleId
module_in f = module_by (f % 256) (f / 16777216)

abbrev pub read_module : ℕ → Option ModuleId
read_module f = cond (is_module f) (Some (module_in f)) None
