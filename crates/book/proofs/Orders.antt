-- The orders of numbers and of words, and the order of members and rules by their words. Assumes nothing.
use Rattle.std.proofs.Common.{◌≡◌, ℕ, ◌<◌, ◌≤◌, true, ltb, leb, sym, ◌∙◌, ⊎_elim, arith}
use Rattle.std.proofs.lemmas.Bool.{and_parts, cases_lt, le-ltb, leb-true, lt-ltb, ltb-false, ltb-true}
use Rattle.std.proofs.Math.Bool.{and-false, or-false}
use Rattle.table.specs.Ordered.{Order}
use Rattle.words.specs.declared.member.Member.{Member}
use Rattle.words.specs.declared.rule.Rule.{Rule}
use Rattle.words.specs.Keys.{rule_key, rule_less}
use Rattle.words.specs.Ranges.{within}
use Rattle.words.specs.Records.{member_word, rule_kind_number, rule_word, valid_member, valid_rule}
use Rattle.words.proofs.Trips.{kind_back, number_back, role_back, tail_back, word_order}

pub ltb_order : Order ltb
ltb_order = record {
  irreflexive = λ x. le-ltb x x (omega arith);
  transitive = λ x y z h k. lt-ltb x z (omega (arith, ltb-true x y h, ltb-true y z k));
  total = λ x y h k. omega (arith, ltb-false x y h, ltb-false y x k);
}

inside : (low high n : ℕ) → within low high n ≡ true → (low ≤ n) × (n ≤ high)
inside low high n h = let p = and_parts (leb low n) (leb n high) h in (leb-true low n p.0, leb-true n high p.1)

-- the ranges of a valid member's number, role and port
pub member_ranges : (m : Member) → valid_member m ≡ true → (1 ≤ m.number) × (m.number ≤ 255) × (1 ≤ m.role) × (m.role ≤ 255) × (1 ≤ m.port) × (m.port ≤ 15)
member_ranges m v =
    let a = and_parts (within 1 255 m.number) _ v in
    let b = and_parts (within 1 255 m.role) (within 1 15 m.port) a.1 in
    let n = inside 1 255 m.number a.0 in
    let r = inside 1 255 m.role b.0 in
    let p = inside 1 15 m.port b.1 in
    (n.0, n.1, r.0, r.1, p.0, p.1)

-- the ranges of a valid rule's number, role and subject
pub rule_ranges : (u : Rule) → valid_rule u ≡ true → (1 ≤ u.number) × (u.number ≤ 255) × (u.role ≤ 255) × (u.subject ≤ 4095)
rule_ranges u v =
    let a = and_parts (within 1 255 u.number) _ v in
    let b = and_parts (leb u.role 255) (leb u.subject 4095) a.1 in
    let n = inside 1 255 u.number a.0 in
    (n.0, n.1, leb-true u.role 255 b.0, leb-true u.subject 4095 b.1)

-- of two members with different numbers the one with the lower number has the lower word
pub member_words_order : (m n : Member) → valid_member m ≡ true → valid_member n ≡ true → (m.number ≡ n.number → ⊥) → ltb m.number n.number ≡ ltb (member_word m) (member_word n)
member_words_order m n v w d =
    let a = member_ranges m v in
    let b = member_ranges n w in
    ⊎_elim (λ (l : m.number < n.number). lt-ltb _ _ l ∙ sym (lt-ltb (member_word m) (member_word n) (omega arith)))
    (λ (l : n.number ≤ m.number). le-ltb _ _ l ∙ sym (le-ltb (member_word m) (member_word n) (omega arith)))
    (cases_lt m.number n.number)

-- rules are in the order of their words
pub rule_words_order : (u v : Rule) → valid_rule u ≡ true → valid_rule v ≡ true → rule_less (rule_key u) (rule_key v) ≡ ltb (rule_word u) (rule_word v)
rule_words_order u v a b =
    let p = rule_ranges u a in
    let q = rule_ranges v b in
    let k = rule_kind_number u.kind in
    let l = rule_kind_number v.kind in
    let ku = kind_back k u.number u.role u.subject (omega arith) (omega arith) (omega arith) in
    let nu = number_back k u.number u.role u.subject (omega arith) (omega arith) (omega arith) in
    let ru = role_back k u.number u.role u.subject (omega arith) (omega arith) (omega arith) in
    let tu = tail_back k u.number u.role u.subject (omega arith) (omega arith) (omega arith) in
    let kv = kind_back l v.number v.role v.subject (omega arith) (omega arith) (omega arith) in
    let nv = number_back l v.number v.role v.subject (omega arith) (omega arith) (omega arith) in
    let rv = role_back l v.number v.role v.subject (omega arith) (omega arith) (omega arith) in
    let tv = tail_back l v.number v.role v.subject (omega arith) (omega arith) (omega arith) in
    rw (and-false, or-false) (sym (word_order (rule_word u) (rule_word v) ∙ rw (ku, nu, ru, tu, kv, nv, rv, tv)))
