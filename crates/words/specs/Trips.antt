-- The records in words keep the law of the round trip. Assumes nothing.
use Rattle.std.proofs.Common.{◌≡◌, ℕ, Bool, true, false, eqb, Ok, refl, arith, rules}
use Rattle.std.proofs.lemmas.Bool.{and_parts, eqb-true}
use Rattle.words.specs.Words.{word, kind_of, number_of, role_of, tail_of}
use Rattle.words.specs.Records.{read_if, is_member, is_rule, rule_in, rule_word, valid_rule}
use Rattle.words.specs.Laws.{RoundTrip, MemberTrip, ApplicantTrip, ReasonTrip}

pub read_if_ok : {A : Type 0} (b : Bool) (x y : A) (at : ℕ) → read_if b x at ≡ Ok y → (b ≡ true) × (x ≡ y)
read_if_ok true x y at e = (refl, cc)
read_if_ok false x y at e = let z : ◌≡◌ {A = ℕ} 0 1 = cc in absurd (omega arith)

pub fields : (w k : ℕ) → kind_of w ≡ k → word k (number_of w) (role_of w) (tail_of w) ≡ w
fields w k h = search rules

pub member_trip : MemberTrip
member_trip = record {
  back = λ m at v. search rules;
  forth = λ w at m e.
      let p = read_if_ok (is_member w) _ m at e in
      let q = and_parts (eqb (kind_of w) 1) _ p.0 in
      rw (← p.1) (q.1, fields w 1 (eqb-true _ _ q.0));
}

pub applicant_trip : ApplicantTrip
applicant_trip = record { back = λ m at v. search rules; forth = λ w at m e. search rules }

pub reason_trip : ReasonTrip
reason_trip = record { back = λ m at v. search rules; forth = λ w at m e. search rules }

-- a rule of either kind
pub any_rule_trip : RoundTrip (λ u. valid_rule u ≡ true) rule_word (λ w at. read_if (is_rule w) (rule_in w) at)
any_rule_trip = record { back = λ u at v. search rules; forth = λ w at u e. search rules }
