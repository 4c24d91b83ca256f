-- What a book keeps when members and rules leave it. Assumes nothing.
use Rattle.std.proofs.Common.{◌≡◌, ℕ, ◌+◌, ◌<◌, ◌≤◌, Bool, true, false, cond, not, ltb, List, [], ◌∷◌, length, filter, Ok, Err, Result, sym, refl, ◌∙◌, ⊎_elim, arith}
use Rattle.std.proofs.lemmas.Bool.{cases_Bool, and_parts, and_from, or_cases, or_right, not-true, not_from_false, ltb-false, ltb-true, le-ltb, eqb-false}
use Rattle.std.proofs.lemmas.List.Filters.{length-filter_both}
use Rattle.table.specs.Ordered.{entered, same, stands, without}
use Rattle.table.specs.Entries.{after, answer}
use Rattle.table.proofs.Places.{without_absent, ascending-entered, ascending_kept}
use Rattle.table.specs.declared.insert_error.InsertError.{InsertError}
use Rattle.table.specs.declared.insert_error.InsertError.TheVariants.{Standing, Full}
use Rattle.words.specs.declared.member.Member.{Member}
use Rattle.words.specs.declared.rule.Rule.{Rule}
use Rattle.words.specs.Keys.{member_key, rule_key, rule_less}
use Rattle.words.specs.Records.{valid_member, valid_rule}
use Rattle.book.specs.declared.book.Book.{Book}
use Rattle.book.specs.Lists.{members_of, rules_of}
use Rattle.words.specs.Orders.{rule_order}
use Rattle.book.specs.Sound.{Sound, each, other_port, ports_apart, holds, owned, not_of}
use Rattle.book.proofs.Orders.{ltb_order}

pub each_kept : {A : Type 0} (f p : A → Bool) (xs : List A) → each f xs ≡ true → each f (filter p xs) ≡ true
each_kept f p [] h = refl
each_kept f p (x ∷ xs) h =
    let a = and_parts (f x) (each f xs) h in
    ⊎_elim (λ (q : p x ≡ true). rw q (and_from _ _ a.0 (each_kept f p xs a.1)))
    (λ (q : p x ≡ false). rw q (each_kept f p xs a.1))
    (cases_Bool (p x))

pub ports_kept : (p : Member → Bool) (ms : List Member) → ports_apart ms ≡ true → ports_apart (filter p ms) ≡ true
ports_kept p [] h = refl
ports_kept p (m ∷ ms) h =
    let a = and_parts (each (other_port m.port) ms) (ports_apart ms) h in
    ⊎_elim (λ (q : p m ≡ true). rw q (and_from _ _ (each_kept (other_port m.port) p ms a.0) (ports_kept p ms a.1)))
    (λ (q : p m ≡ false). rw q (ports_kept p ms a.1))
    (cases_Bool (p m))

pub same_is : (k n : ℕ) → same ltb k n ≡ true → k ≡ n
same_is k n h =
    let a = and_parts (not (ltb k n)) (not (ltb n k)) h in
    let b = ltb-false k n (not-true _ a.0) in
    let c = ltb-false n k (not-true _ a.1) in
    omega arith

pub same_self : (k n : ℕ) → k ≡ n → same ltb k n ≡ true
same_self k n e = and_from _ _ (not_from_false _ (le-ltb k n (omega arith))) (not_from_false _ (le-ltb n k (omega arith)))

pub same_other : (k n : ℕ) → (k ≡ n → ⊥) → same ltb k n ≡ false
same_other k n d = ⊎_elim (λ (q : same ltb k n ≡ true). absurd (d (same_is k n q))) (λ (q : same ltb k n ≡ false). q) (cases_Bool (same ltb k n))

-- a number that is not the one taken away is still held
pub held_without : (k n : ℕ) (ms : List Member) → (k ≡ n → ⊥) → holds k ms ≡ true → holds k (without ltb member_key n ms) ≡ true
held_without k n [] d h = h
held_without k n (m ∷ ms) d h =
    ⊎_elim
    (λ (q : same ltb k m.number ≡ true).
    let e : k ≡ m.number = same_is k m.number q in
    ⊎_elim (λ (s : same ltb n m.number ≡ true). let f : n ≡ m.number = same_is n m.number s in absurd (d (e ∙ sym f)))
    (λ (s : same ltb n m.number ≡ false). rw (s, q))
    (cases_Bool (same ltb n m.number)))
    (λ (q : holds k ms ≡ true).
    ⊎_elim (λ (s : same ltb n m.number ≡ true). rw s (held_without k n ms d q))
    (λ (s : same ltb n m.number ≡ false). rw s (or_right (same ltb k m.number) _ (held_without k n ms d q)))
    (cases_Bool (same ltb n m.number)))
    (or_cases (same ltb k m.number) (holds k ms) h)

-- the rules of the others keep their owners
pub owners_without : (n : ℕ) (ms : List Member) (us : List Rule) → each (owned ms) us ≡ true → each (owned (without ltb member_key n ms)) (filter (not_of n) us) ≡ true
owners_without n ms [] h = refl
owners_without n ms (u ∷ us) h =
    let a = and_parts (owned ms u) (each (owned ms) us) h in
    ⊎_elim (λ (q : not_of n u ≡ true). rw q (and_from _ _ (held_without u.number n ms (eqb-false u.number n (not-true _ q)) a.0) (owners_without n ms us a.1)))
    (λ (q : not_of n u ≡ false). rw q (owners_without n ms us a.1))
    (cases_Bool (not_of n u))

-- what is kept is no more than there was
pub few_kept : {A : Type 0} (p : A → Bool) (n : ℕ) (xs : List A) → length xs ≤ n → length (filter p xs) ≤ n
few_kept p n xs h = let e = length-filter_both p (λ x. not (p x)) (λ x. refl) xs in omega arith

pub member_gone : (ms : List Member) (us : List Rule) (n : ℕ) → Sound ms us → Sound (without ltb member_key n ms) (filter (not_of n) us)
member_gone ms us n s = record {
  numbers = ascending_kept ltb_order member_key (λ m. not (same ltb n m.number)) ms s.numbers;
  rising = ascending_kept rule_order rule_key (not_of n) us s.rising;
  members_valid = each_kept valid_member _ ms s.members_valid;
  rules_valid = each_kept valid_rule (not_of n) us s.rules_valid;
  ports = ports_kept _ ms s.ports;
  owners = owners_without n ms us s.owners;
  few_members = few_kept _ 15 ms s.few_members;
  few_rules = few_kept (not_of n) 200 us s.few_rules;
}

pub rules_gone : (ms : List Member) (us : List Rule) (p : Rule → Bool) → Sound ms us → Sound ms (filter p us)
rules_gone ms us p s = record {
  numbers = s.numbers;
  rising = ascending_kept rule_order rule_key p us s.rising;
  members_valid = s.members_valid;
  rules_valid = each_kept valid_rule p us s.rules_valid;
  ports = s.ports;
  owners = each_kept (owned ms) p us s.owners;
  few_members = s.few_members;
  few_rules = few_kept p 200 us s.few_rules;
}

-- where no such rule stands, none goes
pub gone_or_so : (b : Bool) (u : Rule) (us vs : List Rule) → b ≡ stands rule_less rule_key (rule_key u) us → vs ≡ without rule_less rule_key (rule_key u) us → vs ≡ cond b (without rule_less rule_key (rule_key u) us) us
gone_or_so true u us vs e f = f
gone_or_so false u us vs e f = f ∙ without_absent rule_order rule_key (rule_key u) us (sym e)

pub sound_of : (b : Book) → Sound (members_of b) (rules_of b)
sound_of b = record {
  numbers = b.members.rising;
  rising = b.rules.rising;
  members_valid = b.members_valid;
  rules_valid = b.rules_valid;
  ports = b.ports;
  owners = b.owners;
  few_members = omega (arith, b.members.table.few, b.members.table.records.ok.0);
  few_rules = omega (arith, b.rules.table.few, b.rules.table.records.ok.0);
}

-- the lists that the code holds, by what they are
pub sound_as : (ms ns : List Member) (us vs : List Rule) → ns ≡ ms → vs ≡ us → Sound ms us → Sound ns vs
sound_as ms ns us vs e f s = rw (e, f) s

pub each-entered : {A K : Type 0} (less : K → K → Bool) (key : A → K) (f : A → Bool) (x : A) (xs : List A) → f x ≡ true → each f xs ≡ true → each f (entered less key x xs) ≡ true
each-entered less key f x [] h e = and_from _ _ h refl
each-entered less key f x (y ∷ xs) h e =
    let a = and_parts (f y) (each f xs) e in
    ⊎_elim (λ (q : less (key x) (key y) ≡ true). rw q (and_from _ _ h e))
    (λ (q : less (key x) (key y) ≡ false). rw q (and_from _ _ a.0 (each-entered less key f x xs h a.1)))
    (cases_Bool (less (key x) (key y)))

pub length-entered : {A K : Type 0} (less : K → K → Bool) (key : A → K) (x : A) (xs : List A) → length (entered less key x xs) ≡ length xs + 1
length-entered less key x [] = refl
length-entered less key x (y ∷ xs) =
    ⊎_elim (λ (q : less (key x) (key y) ≡ true). rw q (omega arith))
    (λ (q : less (key x) (key y) ≡ false). rw q (let h = length-entered less key x xs in omega arith))
    (cases_Bool (less (key x) (key y)))

pub rule_entered : (ms : List Member) (us : List Rule) (u : Rule) → Sound ms us → valid_rule u ≡ true → holds u.number ms ≡ true
    → stands rule_less rule_key (rule_key u) us ≡ false → length us < 200 → Sound ms (entered rule_less rule_key u us)
rule_entered ms us u s h o a l = record {
  numbers = s.numbers;
  rising = ascending-entered rule_order rule_key u us s.rising a;
  members_valid = s.members_valid;
  rules_valid = each-entered rule_less rule_key valid_rule u us h s.rules_valid;
  ports = s.ports;
  owners = each-entered rule_less rule_key (owned ms) u us o s.owners;
  few_members = s.few_members;
  few_rules = omega (arith, length-entered rule_less rule_key u us);
}

entry_new : (a b : Bool) → ◌≡◌ {A = Result (Unit {0}) InsertError} (Ok tt) (cond a (Err Standing) (cond b (Ok tt) (Err Full))) → (a ≡ false) × (b ≡ true)
entry_new false true e = (refl, refl)
entry_new false false e = let z : ◌≡◌ {A = ℕ} 0 1 = cc in absurd (omega arith)
entry_new true b e = let z : ◌≡◌ {A = ℕ} 0 1 = cc in absurd (omega arith)

-- where a rule is new, it did not stand and there is room for it
pub new_rule : (us : List Rule) (u : Rule) → Ok tt ≡ answer rule_less rule_key 200 u us → (stands rule_less rule_key (rule_key u) us ≡ false) × (length us < 200)
new_rule us u e =
    let p = entry_new (stands rule_less rule_key (rule_key u) us) (ltb (length us) 200) e in
    (p.0, ltb-true (length us) 200 p.1)

pub rule_put : (ms : List Member) (us vs : List Rule) (r : Result (Unit {0}) InsertError) (u : Rule) → Sound ms us → valid_rule u ≡ true → holds u.number ms ≡ true
    → r ≡ answer rule_less rule_key 200 u us → vs ≡ after r (entered rule_less rule_key u us) us → Sound ms vs
rule_put ms us vs (Ok tt) u s h o e f = let n = new_rule us u e in sound_as ms ms (entered rule_less rule_key u us) vs refl f (rule_entered ms us u s h o n.0 n.1)
rule_put ms us vs (Err r) u s h o e f = sound_as ms ms us vs refl f s
