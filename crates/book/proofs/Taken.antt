-- A change that is taken in leaves a book, and nothing is a book. Assumes nothing.
use Rattle.std.proofs.Common.{◌≡◌, ℕ, ◌<◌, Bool, true, false, cond, not, ◌&&◌, ltb, List, [], length, Ok, Err, refl, arith}
use Rattle.std.proofs.lemmas.Bool.{and_parts, ltb-true}
use Rattle.table.specs.Ordered.{same, stands}
use Rattle.words.specs.declared.member.Member.{Member}
use Rattle.words.specs.declared.rule.Rule.{Rule}
use Rattle.words.specs.Keys.{rule_key, rule_less}
use Rattle.words.specs.Records.{valid_rule}
use Rattle.book.specs.declared.rule_refusal.RuleRefusal.TheVariants.{Invalid, Standing, Full}
use Rattle.book.specs.declared.change.Change.{Change}
use Rattle.book.specs.declared.change.Change.TheVariants.{Starting, Stopping, Enter, Withdraw}
use Rattle.book.specs.Asked.{addition}
use Rattle.book.specs.Changes.{is_new, members_after, own, rules_after, taken}
use Rattle.book.specs.Sound.{Sound, holds}
use Rattle.book.proofs.Keeping.{member_gone, rule_entered, rules_gone}
use Rattle.book.proofs.Seating.{member_seated}

addition_new : (a b c : Bool) → is_new (cond a (cond b (Err Standing) (cond c (Ok tt) (Err Full))) (Err Invalid)) ≡ true → (a ≡ true) × (b ≡ false) × (c ≡ true)
addition_new true false true e = (refl, refl, refl)
addition_new true false false e = let z : ◌≡◌ {A = ℕ} 0 1 = cc in absurd (omega arith)
addition_new true true c e = let z : ◌≡◌ {A = ℕ} 0 1 = cc in absurd (omega arith)
addition_new false b c e = let z : ◌≡◌ {A = ℕ} 0 1 = cc in absurd (omega arith)

-- a rule that is new is valid, of a member's number, did not stand, and finds room
pub rule_new : (ms : List Member) (us : List Rule) (u : Rule) → is_new (addition ms us u) ≡ true
    → (valid_rule u ≡ true) × (holds u.number ms ≡ true) × (stands rule_less rule_key (rule_key u) us ≡ false) × (length us < 200)
rule_new ms us u e =
    let p = addition_new (valid_rule u && holds u.number ms) (stands rule_less rule_key (rule_key u) us) (ltb (length us) 200) e in
    let q = and_parts (valid_rule u) (holds u.number ms) p.0 in
    (q.0, q.1, p.1, ltb-true (length us) 200 p.2)

pub sound_kept : (ms : List Member) (us : List Rule) (c : Change) → Sound ms us → taken ms us c ≡ true → Sound (members_after ms c) (rules_after ms us c)
sound_kept ms us (Starting m) s t = member_seated m ms us s t
sound_kept ms us (Stopping m) s t = member_gone ms us m.number s
sound_kept ms us (Enter m u) s t =
    let n = rule_new ms us u (and_parts (own m ms u) _ t).1 in
    rule_entered ms us u s n.0 n.1 n.2 n.3
sound_kept ms us (Withdraw m u) s t = rules_gone ms us (λ v. not (same rule_less (rule_key u) (rule_key v))) s

pub sound_empty : Sound [] []
sound_empty = record {
  numbers = refl;
  rising = refl;
  members_valid = refl;
  rules_valid = refl;
  ports = refl;
  owners = refl;
  few_members = omega arith;
  few_rules = omega arith;
}
