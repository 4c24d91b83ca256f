-- Each record and its word, both ways; the order of words. Assumes nothing.
use Rattle.std.proofs.Common.{◌≡◌, ℕ, ◌+◌, ◌*◌, ◌%◌, ◌<◌, ◌≤◌, Bool, true, false, eqb, leb, Ok, refl, ◌∙◌, arith, rules}
use Rattle.words.specs.declared.rule_kind.RuleKind.TheVariants.{Subscription, Invitation}
use Rattle.std.proofs.lemmas.Bool.{and_parts, and_from, eqb-true, leb-true, le-leb}
use Rattle.words.specs.declared.message_kind.MessageKind.{MessageKind}
use Rattle.words.specs.declared.head.MessageHead.{MessageHead}
use Rattle.words.specs.Ranges.{within}
use Rattle.words.specs.Words.{word, kind_of, number_of, role_of, tail_of}
use Rattle.words.specs.Heads.{valid_head, kind_number, priority_of, content_length, context_of, head_of, receiver_word, sender_word, context_word, receiver_stands, sender_stands, context_stands, in_turn, read_head}
pub use Rattle.words.specs.Trips.{applicant_trip, fields, member_trip, read_if_ok, reason_trip}
use Rattle.words.specs.Laws.{RuleTrip, ModuleTrip, HeadTrip, WordOrder}

pub rule_trip : RuleTrip
rule_trip Subscription = record { back = λ m at v. search rules; forth = λ w at m e. search rules }
rule_trip Invitation = record { back = λ m at v. search rules; forth = λ w at m e. search rules }

pub module_trip : ModuleTrip
module_trip = record { back = λ m v. search rules; forth = λ f m e. search rules }

pub kind_back : (k n r t : ℕ) → n < 256 → r < 256 → t < 4096 → kind_of (word k n r t) ≡ k
kind_back k n r t a b c = omega arith

pub number_back : (k n r t : ℕ) → n < 256 → r < 256 → t < 4096 → number_of (word k n r t) ≡ n
number_back k n r t a b c = omega arith

pub role_back : (k n r t : ℕ) → n < 256 → r < 256 → t < 4096 → role_of (word k n r t) ≡ r
role_back k n r t a b c = omega arith

pub tail_back : (k n r t : ℕ) → n < 256 → r < 256 → t < 4096 → tail_of (word k n r t) ≡ t
tail_back k n r t a b c = omega arith

sender_back : (s p n w : ℕ) → s < 256 → p < 16 → n < 65536 → w ≡ 13 * 268435456 + s * 1048576 + p * 65536 + n
    → (kind_of w ≡ 13) × (number_of w ≡ s) × (priority_of w ≡ p) × (content_length w ≡ n)
sender_back s p n w a b c e = (rw e (omega arith), rw e (omega arith), rw e (omega arith), rw e (omega arith))

context_back : (x w : ℕ) → x < 268435456 → w ≡ 14 * 268435456 + x % 268435456 → (kind_of w ≡ 14) × (context_of w ≡ x)
context_back x w a e = (rw e (omega arith), rw e (omega arith))

below : (low high n : ℕ) → within low high n ≡ true → n ≤ high
below low high n h = leb-true n high (and_parts (leb low n) (leb n high) h).1

stood : (k : MessageKind) (a b c : ℕ) → receiver_stands a ≡ true → sender_stands b ≡ true → context_stands c ≡ true
    → read_head k a b c ≡ Ok (head_of k (number_of a) (role_of a) (tail_of a) (number_of b) (priority_of b) (context_of c))
stood k a b c p q r = rw (p, q, r)

-- where the head was read, its three words stood
stood_all : {A : Type 0} (p q r : Bool) (x y : A) → in_turn p q r x ≡ Ok y → (p ≡ true) × (q ≡ true) × (r ≡ true) × (x ≡ y)
stood_all true true true x y f = (refl, refl, refl, cc)
stood_all true true false x y f = let z : ◌≡◌ {A = ℕ} 0 1 = cc in absurd (omega arith)
stood_all true false r x y f = let z : ◌≡◌ {A = ℕ} 0 1 = cc in absurd (omega arith)
stood_all false q r x y f = let z : ◌≡◌ {A = ℕ} 0 1 = cc in absurd (omega arith)

sender_fields : (w : ℕ) → kind_of w ≡ 13 → 13 * 268435456 + number_of w * 1048576 + priority_of w * 65536 + content_length w ≡ w
sender_fields w e = search rules

context_fields : (w : ℕ) → kind_of w ≡ 14 → 14 * 268435456 + context_of (context_of w) ≡ w
context_fields w e = search rules

-- what a valid head says of each of its fields
pub record HeadBounds (h : MessageHead) : Type 0 where
  pub named : (within 1 255 h.receiver ≡ true) × (within 1 255 h.role ≡ true) × (within 1 4095 h.subject ≡ true)
  pub sent : (within 1 255 h.sender ≡ true) × (within 1 15 h.priority ≡ true)
  pub receiver : h.receiver ≤ 255
  pub role : h.role ≤ 255
  pub subject : h.subject ≤ 4095
  pub sender : h.sender ≤ 255
  pub priority : h.priority ≤ 15
  pub context : h.context ≤ 268435455

pub head_bounds : (h : MessageHead) → valid_head h ≡ true → HeadBounds h
head_bounds h v =
    let v0 = and_parts (within 1 255 h.receiver) _ v in
    let v1 = and_parts (within 1 255 h.role) _ v0.1 in
    let v2 = and_parts (within 1 4095 h.subject) _ v1.1 in
    let v3 = and_parts (within 1 255 h.sender) _ v2.1 in
    let v4 = and_parts (within 1 15 h.priority) _ v3.1 in
    record {
      named = (v0.0, v1.0, v2.0);
      sent = (v3.0, v4.0);
      receiver = below 1 255 h.receiver v0.0;
      role = below 1 255 h.role v1.0;
      subject = below 1 4095 h.subject v2.0;
      sender = below 1 255 h.sender v3.0;
      priority = below 1 15 h.priority v4.0;
      context = leb-true _ _ v4.1;
    }

pub head_trip : HeadTrip
head_trip = record {
  back = λ h n v l.
      let b = head_bounds h v in
      let k = kind_number h.kind in
      let n0 = number_back k h.receiver h.role h.subject (omega arith) (omega arith) (omega arith) in
      let n1 = role_back k h.receiver h.role h.subject (omega arith) (omega arith) (omega arith) in
      let n2 = tail_back k h.receiver h.role h.subject (omega arith) (omega arith) (omega arith) in
      let s = sender_back h.sender h.priority n (sender_word h n) (omega arith) (omega arith) l refl in
      let x = context_back h.context (context_word h) (omega arith) refl in
      let p : receiver_stands (receiver_word h) ≡ true = rw (n0, n1, n2) (and_from _ _ b.named.0 (and_from _ _ b.named.1 b.named.2)) in
      let q : sender_stands (sender_word h n) ≡ true = rw (s.0, s.1, s.2) (and_from _ _ b.sent.0 b.sent.1) in
      let r : context_stands (context_word h) ≡ true = rw x.0 in
      (stood h.kind (receiver_word h) (sender_word h n) (context_word h) p q r ∙ rw (n0, n1, n2, s.1, s.2, x.1), s.3);
  forth = λ k a b c h i e.
      let s = stood_all (receiver_stands a) (sender_stands b) (context_stands c) _ h e in
      let p = and_parts (within 1 255 (number_of a)) _ s.0 in
      let o = and_parts (within 1 255 (role_of a)) (within 1 4095 (tail_of a)) p.1 in
      let q = and_parts (eqb (kind_of b) 13) _ s.1 in
      let r = and_parts (within 1 255 (number_of b)) _ q.1 in
      rw (← s.3) (
        refl,
        and_from _ _ p.0 (and_from _ _ o.0 (and_from _ _ o.1 (and_from _ _ r.0 (and_from _ _ r.1 (le-leb (context_of c) 268435455 (omega arith)))))),
        fields a (kind_number k) i,
        sender_fields b (eqb-true _ _ q.0),
        context_fields c (eqb-true _ _ s.2),
      );
}

pub word_order : WordOrder
word_order w v = search rules
