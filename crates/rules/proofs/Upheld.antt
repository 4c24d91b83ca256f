-- Rules stand as served. Assumes nothing.
use Rattle.std.proofs.Common.{◌≡◌, ℕ, Bool, true, false, not, eqb, ltb, ◌⊎◌, List, filter, sym, refl, ap, ◌∙◌, inl, inr, arith}
use Rattle.std.proofs.lemmas.Bool.{both_ways, not-true, not_from_false, eqb-true, eqb-false, ne_eqb, and_parts, and_from, or_cases, or_left, or_right}
use Rattle.words.specs.declared.applicant.Applicant.{Applicant}
use Rattle.words.specs.declared.member.Member.{Member}
use Rattle.words.specs.declared.rule.Rule.{Rule}
use Rattle.words.specs.Keys.{member_key, rule_key, rule_less}
use Rattle.words.specs.Records.{valid_member}
use Rattle.words.specs.Orders.{rule_order}
use Rattle.table.specs.Ordered.{same}
use Rattle.book.specs.declared.change.Change.TheVariants.{Starting, Stopping, Enter, Withdraw}
use Rattle.book.specs.Changes.{own}
use Rattle.book.specs.Matching.{some}
use Rattle.book.specs.Seating.{stays, stayers}
use Rattle.book.specs.Sound.{not_of, owned, holds, other_port}
use Rattle.book.proofs.Keeping.{same_is, same_self as number-self}
use Rattle.rules.specs.Listings.{Listing, has, standing, accepts, changed, Whole}
use Rattle.rules.specs.Meanings.{Meaning, rejects, dead, changes, applies, welcomes, reports, carries, garbled}
use Rattle.rules.specs.Registrar.{others, newcomer}
use Rattle.rules.proofs.Books.{among, has_listed, listed_has, listed_was, listed_kept, listed_found, listed_there, one_with_number, stopped_stays, started_stays}
use Rattle.rules.proofs.Lists.{kept_was, was_kept, some_entered}

-- the rule v is u
abbrev pub is_rule : Rule → Rule → Bool
is_rule u v = same rule_less (rule_key u) (rule_key v)

pub rule_true : (u v : Rule) → is_rule u v ≡ true → u ≡ v
rule_true u v e =
    let a = and_parts (not (rule_less (rule_key u) (rule_key v))) (not (rule_less (rule_key v) (rule_key u))) e in
    rule_order.total (rule_key u) (rule_key v) (not-true _ a.0) (not-true _ a.1)

pub rule_self : (u : Rule) → is_rule u u ≡ true
rule_self u = and_from _ _ (not_from_false _ (rule_order.irreflexive (rule_key u))) (not_from_false _ (rule_order.irreflexive (rule_key u)))

rule_was : (g : Rule → Bool) (u : Rule) (us : List Rule) → some (is_rule u) (filter g us) ≡ true → (some (is_rule u) us ≡ true) × (g u ≡ true)
rule_was = kept_was is_rule rule_true rule_self

rule_kept : (g : Rule → Bool) (u : Rule) (us : List Rule) → some (is_rule u) us ≡ true → g u ≡ true → some (is_rule u) (filter g us) ≡ true
rule_kept = was_kept is_rule rule_true rule_self

stands_some : (u : Rule) (b : Listing) → standing u b ≡ some (is_rule u) b.rules
stands_some u b = refl

-- what a serve with code 1 did to the book b, having taken what says m
pub data Did (b d : Listing) (m : Meaning) : Type 0 where
  entered : (w : Member) (u : Rule) → m ≡ changes (Enter w u) → has w b ≡ true → accepts b (Enter w u) ≡ true → d ≡ changed b (Enter w u) → Did b d m
  withdrew : (w : Member) (u : Rule) → m ≡ changes (Withdraw w u) → has w b ≡ true → accepts b (Withdraw w u) ≡ true → d ≡ changed b (Withdraw w u) → Did b d m
  ended : (w : Member) → m ≡ changes (Stopping w) → has w b ≡ true → d ≡ changed b (Stopping w) → Did b d m
  seated : (q : ℕ) (a : Applicant) (n : ℕ) → m ≡ applies q a → valid_member (newcomer a n) ≡ true → holds n (others a.port b.members) ≡ false → d ≡ changed b (Starting (newcomer a n)) → Did b d m

-- a kind of meaning, to tell them apart
abbrev sort_of : Meaning → ℕ
sort_of (rejects f y) = 0
sort_of (dead m) = 0
sort_of (changes (Starting w)) = 0
sort_of (changes (Stopping w)) = 1
sort_of (changes (Enter w u)) = 2
sort_of (changes (Withdraw w u)) = 3
sort_of (applies q a) = 4
sort_of (welcomes q w b) = 0
sort_of (reports b) = 0
sort_of (carries h o) = 0
sort_of (garbled e) = 0

apart : {A : Type 0} (m x y : Meaning) → m ≡ x → m ≡ y → (sort_of x ≡ sort_of y → ⊥) → A
apart m x y e f d = absurd (d (ap sort_of (sym e ∙ f)))

enter_rule : (w v : Member) (u r : Rule) → changes (Enter w u) ≡ changes (Enter v r) → u ≡ r
enter_rule w v u r e = cc

withdraw_rule : (w v : Member) (u r : Rule) → changes (Withdraw w u) ≡ changes (Withdraw v r) → u ≡ r
withdraw_rule w v u r e = cc

stop_member : (w v : Member) → changes (Stopping w) ≡ changes (Stopping v) → w ≡ v
stop_member w v e = cc

apply_applicant : (q j : ℕ) (a c : Applicant) → applies q a ≡ applies j c → a ≡ c
apply_applicant q j a c e = cc

-- what ends the membership of w, and what withdraws the rule u
abbrev EndsBy : Meaning → Member → Type 0
EndsBy m w = (m ≡ changes (Stopping w)) ⊎ ((q : ℕ) × (a : Applicant) × (m ≡ applies q a) × (a.port ≡ w.port))

abbrev WithdrawsBy : Meaning → Rule → Type 0
WithdrawsBy m u = (w : Member) × (m ≡ changes (Withdraw w u))

number_of_own : (b : Listing) (w : Member) (u : Rule) → accepts b (Enter w u) ≡ true → u.number ≡ w.number
number_of_own b w u t =
    let a = and_parts (own w b.members u) _ t in
    eqb-true u.number w.number (and_parts (has w b) (eqb u.number w.number) a.0).1

-- a newcomer's number is no other's
free_of : (b : Listing) (a : Applicant) (n : ℕ) (w : Member) → Whole b → has w b ≡ true → (w.port ≡ a.port → ⊥) → holds n (others a.port b.members) ≡ false → w.number ≡ n → ⊥
free_of b a n w s h d f z =
    both_ways _ f (listed_there (λ m. same ltb n (member_key m)) w (others a.port b.members)
    (listed_kept (other_port a.port) w b.members (has_listed b s w h) (not_from_false _ (ne_eqb w.port a.port d))) (number-self n w.number (sym z)))

-- what stood and was not withdrawn, nor its membership ended, stands
pub stays_up : (b d : Listing) (m : Meaning) → Whole b → Did b d m → (u : Rule) (w : Member) → standing u b ≡ true → has w b ≡ true → u.number ≡ w.number
    → (WithdrawsBy m u → ⊥) → (EndsBy m w → ⊥) → (standing u d ≡ true) × (has w d ≡ true)
stays_up b d m s (entered v r e h t z) u w st k n nw ne =
    (ap (standing u) z ∙ some_entered (is_rule u) rule_less rule_key r b.rules ∙ or_right _ _ st, ap (has w) z ∙ k)
stays_up b d m s (withdrew v r e h t z) u w st k n nw ne =
    (ap (standing u) z ∙ rule_kept (λ y. not (same rule_less (rule_key r) (rule_key y))) u b.rules st (other (is_rule r u) refl), ap (has w) z ∙ k)
  where
    other : (v' : Bool) → is_rule r u ≡ v' → not v' ≡ true
    other false y = refl
    other true y = absurd (nw (v, e ∙ ap (λ (x : Rule). changes (Withdraw v x)) (rule_true r u y)))
stays_up b d m s (ended v e h z) u w st k n nw ne =
    let far : w.number ≡ v.number → ⊥ = λ y. ne (inl (e ∙ ap (λ (x : Member). changes (Stopping x)) (one_with_number b s v w h k (sym y)))) in
    (ap (standing u) z ∙ rule_kept (not_of v.number) u b.rules st (not_from_false _ (ne_eqb u.number v.number (λ y. far (sym n ∙ y)))), ap (has w) z ∙ stopped_stays b v w s h k far)
stays_up b d m s (seated q a j e ok free z) u w st k n nw ne =
    let away : w.port ≡ a.port → ⊥ = λ y. ne (inr (q, a, e, sym y)) in
    let far : w.number ≡ j → ⊥ = free_of b a j w s k away free in
    let new : Member = newcomer a j in
    let stay : among w (stayers new b.members) ≡ true = listed_kept (stays new) w b.members (has_listed b s w k) (and_from _ _ (not_from_false _ (ne_eqb _ _ far)) (not_from_false _ (ne_eqb _ _ away))) in
    (ap (standing u) z ∙ rule_kept (owned (stayers new b.members)) u b.rules st (listed_there (λ x. same ltb u.number (member_key x)) w (stayers new b.members) stay (number-self u.number w.number n)), ap (has w) z ∙ started_stays b new w s ok k far away)

-- what stands was entered now, or stood and was neither withdrawn nor ended
abbrev pub Came : Listing → Listing → Meaning → Rule → Type 0
Came b d m u = ((w : Member) × (m ≡ changes (Enter w u)) × (has w d ≡ true) × (u.number ≡ w.number))
    ⊎ ((standing u b ≡ true) × (WithdrawsBy m u → ⊥) × ((w : Member) → has w b ≡ true → u.number ≡ w.number → (EndsBy m w → ⊥) × (has w d ≡ true)))

pub came_from : (b d : Listing) (m : Meaning) → Whole b → Did b d m → (u : Rule) → standing u d ≡ true → Came b d m u
came_from b d m s (entered v r e h t z) u st = go (or_cases _ _ (sym (some_entered (is_rule u) rule_less rule_key r b.rules) ∙ ap (standing u) (sym z) ∙ st))
  where
    go : (is_rule u r ≡ true) ⊎ (standing u b ≡ true) → Came b d m u
    go (inl y) =
        let same_rule : u ≡ r = rule_true u r y in
        inl (v, e ∙ ap (λ (x : Rule). changes (Enter v x)) (sym same_rule), ap (has v) z ∙ h, ap (λ (x : Rule). x.number) same_rule ∙ number_of_own b v r t)
    go (inr y) = inr (y, λ x. apart m _ _ e x.1 (λ c. omega arith), λ w k n. (λ x. never x, ap (has w) z ∙ k))
      where
        never : {w : Member} → EndsBy m w → ⊥
        never (inl x) = apart m _ _ e x (λ c. omega arith)
        never (inr x) = apart m _ _ e x.2 (λ c. omega arith)
came_from b d m s (withdrew v r e h t z) u st =
    let k = rule_was (λ y. not (same rule_less (rule_key r) (rule_key y))) u b.rules (ap (standing u) (sym z) ∙ st) in
    inr (k.0, λ x. both_ways (is_rule r u) (not-true _ k.1) (ap (λ (y : Rule). is_rule r y) (withdraw_rule x.0 v u r (sym x.1 ∙ e)) ∙ rule_self r), λ w l n. (λ x. never x, ap (has w) z ∙ l))
  where
    never : {w : Member} → EndsBy m w → ⊥
    never (inl x) = apart m _ _ e x (λ c. omega arith)
    never (inr x) = apart m _ _ e x.2 (λ c. omega arith)
came_from b d m s (ended v e h z) u st =
    let k = rule_was (not_of v.number) u b.rules (ap (standing u) (sym z) ∙ st) in
    let far : u.number ≡ v.number → ⊥ = eqb-false u.number v.number (not-true _ k.1) in
    inr (k.0, λ x. apart m _ _ e x.1 (λ c. omega arith), λ w l n. (λ x. never w n far x, ap (has w) z ∙ stopped_stays b v w s h l (λ y. far (n ∙ y))))
  where
    never : (w : Member) → u.number ≡ w.number → (u.number ≡ v.number → ⊥) → EndsBy m w → ⊥
    never w n far (inl x) = far (n ∙ ap (λ (y : Member). y.number) (stop_member w v (sym x ∙ e)))
    never w n far (inr x) = apart m _ _ e x.2 (λ c. omega arith)
came_from b d m s (seated q a j e ok free z) u st =
    let new : Member = newcomer a j in
    let k = rule_was (owned (stayers new b.members)) u b.rules (ap (standing u) (sym z) ∙ st) in
    let f = listed_found (λ x. same ltb u.number (member_key x)) (stayers new b.members) k.1 in
    let g = listed_was (stays new) f.0 b.members f.1 in
    let i = and_parts (not (eqb f.0.number j)) (not (eqb f.0.port a.port)) g.1 in
    let num : u.number ≡ f.0.number = same_is u.number f.0.number f.2 in
    inr (
      k.0,
      λ x. apart m _ _ e x.1 (λ c. omega arith),
      λ w l n.
          let one : f.0 ≡ w = one_with_number b s f.0 w (listed_has b s f.0 g.0) l (sym num ∙ n) in
          let far : w.number ≡ j → ⊥ = λ y. eqb-false f.0.number j (not-true _ i.0) (ap (λ (x : Member). x.number) one ∙ y) in
          let away : w.port ≡ a.port → ⊥ = λ y. eqb-false f.0.port a.port (not-true _ i.1) (ap (λ (x : Member). x.port) one ∙ y) in
          (λ x. never w away x, ap (has w) z ∙ started_stays b new w s ok l far away),
    )
  where
    never : (w : Member) → (w.port ≡ a.port → ⊥) → EndsBy m w → ⊥
    never w away (inl x) = apart m _ _ e x (λ c. omega arith)
    never w away (inr x) = away (sym x.3 ∙ ap (λ (y : Applicant). y.port) (apply_applicant x.0 q x.1 a (sym x.2 ∙ e)))

-- what was entered stands, and its member too
pub entered-stands : (b d : Listing) (m : Meaning) → Whole b → Did b d m → (w : Member) (u : Rule) → m ≡ changes (Enter w u) → (standing u d ≡ true) × (has w d ≡ true) × (u.number ≡ w.number)
entered-stands b d m s (entered v r e h t z) w u f =
    let same_rule : u ≡ r = enter_rule w v u r (sym f ∙ e) in
    let same_member : w ≡ v = enter_member (sym f ∙ e) in (
      ap (λ (x : Rule). standing x d) same_rule ∙ ap (standing r) z ∙ some_entered (is_rule r) rule_less rule_key r b.rules ∙ or_left _ _ (rule_self r),
      ap (λ (x : Member). has x d) same_member ∙ ap (has v) z ∙ h,
      ap (λ (x : Rule). x.number) same_rule ∙ number_of_own b v r t ∙ ap (λ (x : Member). x.number) (sym same_member),
    )
  where
    enter_member : changes (Enter w u) ≡ changes (Enter v r) → w ≡ v
    enter_member y = cc
entered-stands b d m s (withdrew v r e h t z) w u f = apart m _ _ e f (λ c. omega arith)
entered-stands b d m s (ended v e h z) w u f = apart m _ _ e f (λ c. omega arith)
entered-stands b d m s (seated q a j e ok free z) w u f = apart m _ _ e f (λ c. omega arith)
