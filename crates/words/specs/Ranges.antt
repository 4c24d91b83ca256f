-- The values that the fields of a record may have. Assumes nothing.
--     within low high n      n is low, high or between
--     applicant_valid r p    a module of role r may ask for a number at port p
--     module_valid n r       a module of number n and role r may exist
--     member_valid n r p     a member of number n and role r may stand at port p
--     rule_valid k n r s     a rule of kind k for the member of number n, domain role r and subject s may stand
--     head_valid ..          a message may have this receiver, role, subject, sender, priority and context
use Rattle.std.specs.Prelude.{ℕ, Bool, ◌&&◌, nat_le}
use Rattle.words.specs.declared.rule_kind.RuleKind.{RuleKind}

abbrev pub within : ℕ → ℕ → ℕ → Bool
within low high n = nat_le low n && nat_le n high

abbrev pub applicant_valid : ℕ → ℕ → Bool
applicant_valid r p = within 1 255 r && within 1 15 p

abbrev pub module_valid : ℕ → ℕ → Bool
module_valid n r = within 1 255 n && within 1 255 r

abbrev pub member_valid : ℕ → ℕ → ℕ → Bool
member_valid n r p = within 1 255 n && applicant_valid r p

-- domain role 0 is every role, subject 0 every subject, for either kind
abbrev pub rule_valid : RuleKind → ℕ → ℕ → ℕ → Bool
rule_valid k n r s = within 1 255 n && (nat_le r 255 && nat_le s 4095)

abbrev pub head_valid : ℕ → ℕ → ℕ → ℕ → ℕ → ℕ → Bool
head_valid receiver r s sender p x =
    within 1 255 receiver
    && (within 1 255 r && (within 1 4095 s && (within 1 255 sender && (within 1 15 p && nat_le x 268435455))))
