-- A member takes its seat, and the book stays a book. Assumes nothing.
use Rattle.std.proofs.Common.{◌≡◌, ℕ, Bool, true, false, not, eqb, ltb, List, [], ◌∷◌, length, filter, Ok, Result, sym, refl, ◌∙◌, ⊎_elim, arith}
use Rattle.std.proofs.lemmas.Bool.{cases_Bool, and_parts, and_from, or_cases, or_from, or_left, or_right, eqb-false, ne_eqb, not-true, not_from_false, lt-ltb}
use Rattle.table.specs.Entries.{after, answer}
use Rattle.table.specs.Ordered.{entered, same}
use Rattle.table.proofs.Places.{ascending-entered, ascending_kept}
use Rattle.table.specs.declared.insert_error.InsertError.{InsertError}
use Rattle.words.specs.declared.member.Member.{Member}
use Rattle.words.specs.declared.rule.Rule.{Rule}
use Rattle.words.specs.Keys.{member_key, rule_key}
use Rattle.words.specs.Records.{valid_member, valid_rule}
use Rattle.words.specs.Orders.{rule_order}
use Rattle.book.specs.Sound.{Sound, each, other_port, ports_apart, holds, owned}
use Rattle.book.specs.Seating.{stays, stayers, with_member, rules_with}
use Rattle.book.proofs.Orders.{ltb_order}
use Rattle.book.proofs.Keeping.{each_kept, each-entered, few_kept, length-entered, ports_kept, same_other}
use Rattle.book.proofs.Ports.{room, port_of}

-- what passed the test has what the test gives
each_of_kept : {A : Type 0} (p q : A → Bool) (xs : List A) → ((x : A) → p x ≡ true → q x ≡ true) → each q (filter p xs) ≡ true
each_of_kept p q [] h = refl
each_of_kept p q (x ∷ xs) h =
    ⊎_elim (λ (e : p x ≡ true). rw e (and_from _ _ (h x e) (each_of_kept p q xs h)))
    (λ (e : p x ≡ false). rw e (each_of_kept p q xs h))
    (cases_Bool (p x))

port_free : (m : Member) (ms : List Member) → each (other_port m.port) (stayers m ms) ≡ true
port_free m ms = each_of_kept (stays m) (other_port m.port) ms (λ x e. (and_parts (not (eqb x.number m.number)) _ e).1)

number_free : (m : Member) (ms : List Member) → holds m.number (stayers m ms) ≡ false
number_free m [] = refl
number_free m (x ∷ ms) =
    ⊎_elim
    (λ (e : stays m x ≡ true).
    let d = eqb-false x.number m.number (not-true _ (and_parts (not (eqb x.number m.number)) _ e).0) in
    rw e (or_from _ _ (same_other m.number x.number (λ (q : m.number ≡ x.number). d (sym q))) (number_free m ms)))
    (λ (e : stays m x ≡ false). rw e (number_free m ms))
    (cases_Bool (stays m x))

ports_entered : (m : Member) (ms : List Member) → each (other_port m.port) ms ≡ true → ports_apart ms ≡ true → ports_apart (entered ltb member_key m ms) ≡ true
ports_entered m [] f h = refl
ports_entered m (y ∷ ms) f h =
    let a = and_parts (other_port m.port y) (each (other_port m.port) ms) f in
    let b = and_parts (each (other_port y.port) ms) (ports_apart ms) h in
    let d = eqb-false y.port m.port (not-true _ a.0) in
    let o : other_port y.port m ≡ true = not_from_false _ (ne_eqb m.port y.port (λ (q : m.port ≡ y.port). d (sym q))) in
    ⊎_elim (λ (q : ltb m.number y.number ≡ true). rw q (and_from _ _ f h))
    (λ (q : ltb m.number y.number ≡ false). rw q (and_from _ _ (each-entered ltb member_key (other_port y.port) m ms o b.0) (ports_entered m ms a.1 b.1)))
    (cases_Bool (ltb m.number y.number))

held_entered : (n : ℕ) (m : Member) (ms : List Member) → holds n ms ≡ true → holds n (entered ltb member_key m ms) ≡ true
held_entered n m [] h = or_right _ _ h
held_entered n m (y ∷ ms) h =
    ⊎_elim (λ (q : ltb m.number y.number ≡ true). rw q (or_right (same ltb n m.number) _ h))
    (λ (q : ltb m.number y.number ≡ false).
    rw q (⊎_elim (λ (e : same ltb n y.number ≡ true). or_left _ _ e)
    (λ (e : holds n ms ≡ true). or_right (same ltb n y.number) _ (held_entered n m ms e))
    (or_cases (same ltb n y.number) (holds n ms) h)))
    (cases_Bool (ltb m.number y.number))

-- there is room, and the number is free
pub seat_new : (m : Member) (ms : List Member) (us : List Rule) → Sound ms us → valid_member m ≡ true → answer ltb member_key 15 m (stayers m ms) ≡ Ok tt
seat_new m ms us s v =
    let p = port_of m v in
    let l = room m.port (stayers m ms) p.0 p.1 (ports_kept (stays m) ms s.ports) (each_kept valid_member (stays m) ms s.members_valid) (port_free m ms) in
    rw (number_free m ms, lt-ltb (length (stayers m ms)) 15 l)

pub member_seated : (m : Member) (ms : List Member) (us : List Rule) → Sound ms us → valid_member m ≡ true → Sound (with_member m ms) (rules_with m ms us)
member_seated m ms us s v =
    let k = stayers m ms in
    let valid = each_kept valid_member (stays m) ms s.members_valid in
    let apart = ports_kept (stays m) ms s.ports in
    let p = port_of m v in
    let l = room m.port k p.0 p.1 apart valid (port_free m ms) in
    record {
      numbers = ascending-entered ltb_order member_key m k (ascending_kept ltb_order member_key (stays m) ms s.numbers) (number_free m ms);
      rising = ascending_kept rule_order rule_key (owned k) us s.rising;
      members_valid = each-entered ltb member_key valid_member m k v valid;
      rules_valid = each_kept valid_rule (owned k) us s.rules_valid;
      ports = ports_entered m k (port_free m ms) apart;
      owners = each_of_kept (owned k) (owned (with_member m ms)) us (λ u h. held_entered u.number m k h);
      few_members = omega (arith, length-entered ltb member_key m k);
      few_rules = few_kept (owned k) 200 us s.few_rules;
    }

-- the members and rules then, by what the tables answered
pub seat_done : (m : Member) (ms ks ns : List Member) (us vs : List Rule) (r : Result (Unit {0}) InsertError) → Sound ms us → valid_member m ≡ true
    → ks ≡ stayers m ms → vs ≡ filter (owned ks) us → r ≡ answer ltb member_key 15 m ks → ns ≡ after r (entered ltb member_key m ks) ks
    → (ns ≡ with_member m ms) × (vs ≡ rules_with m ms us) × (r ≡ Ok tt)
seat_done m ms ks ns us vs r s v e g h i =
    let q : r ≡ Ok tt = h ∙ rw e (seat_new m ms us s v) in
    (i ∙ rw (q, e), g ∙ rw e, q)
