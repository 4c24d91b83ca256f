-- A word and the member or rule that it carries. Assumes nothing.
use Rattle.std.proofs.Common.{◌≡◌, ℕ, ◌<◌, true, false, ◌&&◌, eqb, ltb, sym, refl, ap, ◌∙◌, ⊎_elim, arith, rules}
use Rattle.std.proofs.lemmas.Bool.{and_from, and_parts, cases_Bool, cases_eq, eq-eqb, eqb-true, lt-ltb, ne_eqb}
use Rattle.words.specs.declared.member.Member.{Member}
use Rattle.words.specs.declared.rule.Rule.{Rule}
use Rattle.words.specs.Keys.{rule_key, rule_less}
use Rattle.words.specs.Records.{is_member, is_rule, member_in, member_of, member_word, rule_in, rule_word, valid_member, valid_rule}
use Rattle.words.specs.Words.{kind_of, number_of}
use Rattle.words.specs.Trips.{any_rule_trip, member_trip, read_if_ok}
use Rattle.book.specs.Asked.{same_member}
use Rattle.book.proofs.Orders.{rule_words_order}

-- the word of a member is of kind 1, and is the word of what it carries
pub member_of_word : (w : ℕ) → is_member w ≡ true → (kind_of w ≡ 1) × (valid_member (member_in w) ≡ true) × (member_word (member_in w) ≡ w)
member_of_word w h = let t = member_trip.forth w 0 (member_in w) (rw h) in (eqb-true (kind_of w) 1 (and_parts (eqb (kind_of w) 1) _ h).0, t.0, t.1)

above_1 : (w : ℕ) → is_rule w ≡ true → 1 < kind_of w
above_1 w h = search rules

-- the word of a rule is of a kind above 1, and is the word of what it carries
pub rule_of_word : (w : ℕ) → is_rule w ≡ true → (1 < kind_of w) × (valid_rule (rule_in w) ≡ true) × (rule_word (rule_in w) ≡ w)
rule_of_word w h = let t = any_rule_trip.forth w 0 (rule_in w) (rw h) in (above_1 w h, t.0, t.1)

-- a valid member's word carries it
pub word_of_member : (m : Member) → valid_member m ≡ true → (is_member (member_word m) ≡ true) × (member_in (member_word m) ≡ m)
word_of_member m v = read_if_ok (is_member (member_word m)) (member_in (member_word m)) m 0 (member_trip.back m 0 v)

-- a valid rule's word carries it
pub word_of_rule : (u : Rule) → valid_rule u ≡ true → (is_rule (rule_word u) ≡ true) × (rule_in (rule_word u) ≡ u)
word_of_rule u v = read_if_ok (is_rule (rule_word u)) (rule_in (rule_word u)) u 0 (any_rule_trip.back u 0 v)

-- of two members' words with different numbers the lower has the lower number
pub numbers_rise : (w v : ℕ) → is_member w ≡ true → is_member v ≡ true → w < v → (number_of w ≡ number_of v → ⊥) → ltb (number_of w) (number_of v) ≡ true
numbers_rise w v a b l d =
    let p = (member_of_word w a).0 in
    let q = (member_of_word v b).0 in
    lt-ltb (number_of w) (number_of v) (omega arith)

pub rules_rise : (w v : ℕ) → is_rule w ≡ true → is_rule v ≡ true → w < v → rule_less (rule_key (rule_in w)) (rule_key (rule_in v)) ≡ true
rules_rise w v a b l =
    let p = rule_of_word w a in
    let q = rule_of_word v b in
    rule_words_order (rule_in w) (rule_in v) p.1 q.1 ∙ rw (p.2, q.2) (lt-ltb w v l)

-- no rule's word is below a member's
pub member_first : (w v : ℕ) → is_rule w ≡ true → is_member v ≡ true → v < w
member_first w v a b =
    let p = (rule_of_word w a).0 in
    let q = (member_of_word v b).0 in
    omega arith

pub same-is_member : (m n : Member) → same_member m n ≡ true → m ≡ n
same-is_member m n h =
    let a = and_parts (eqb m.number n.number) _ h in
    let b = and_parts (eqb m.role n.role) (eqb m.port n.port) a.1 in
    let p = eqb-true m.number n.number a.0 in
    let q = eqb-true m.role n.role b.0 in
    let r = eqb-true m.port n.port b.1 in
    let z : member_of m.number m.role m.port ≡ member_of n.number n.role n.port = cc in
    z

pub same_member_self : (m : Member) → same_member m m ≡ true
same_member_self m = rw (eq-eqb m.number m.number refl, eq-eqb m.role m.role refl, eq-eqb m.port m.port refl)

-- a word is a member's where it carries that member
pub word_tells : (m : Member) → valid_member m ≡ true → (w : ℕ) → eqb w (member_word m) ≡ (is_member w && same_member (member_in w) m)
word_tells m v w =
    let g = word_of_member m v in
    let carries : w ≡ member_word m → (is_member w && same_member (member_in w) m) ≡ true = λ e. rw e (and_from _ _ g.0 (ap (λ n. same_member n m) g.1 ∙ same_member_self m)) in
    let tells : (is_member w && same_member (member_in w) m) ≡ true → w ≡ member_word m =
    λ t. let p = and_parts (is_member w) _ t in sym (member_of_word w p.0).2 ∙ ap member_word (same-is_member (member_in w) m p.1) in
    ⊎_elim (λ (e : w ≡ member_word m). eq-eqb w (member_word m) e ∙ sym (carries e))
    (λ (d : w ≡ member_word m → ⊥).
    ne_eqb w (member_word m) d
    ∙ ⊎_elim (λ (t : (is_member w && same_member (member_in w) m) ≡ true). absurd (d (tells t))) (λ (f : (is_member w && same_member (member_in w) m) ≡ false). sym f) (cases_Bool (is_member w && same_member (member_in w) m)))
    (cases_eq w (member_word m))
