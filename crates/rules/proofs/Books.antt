-- Who stands in a book, and after a change. Assumes nothing.
use Rattle.std.proofs.Common.{◌≡◌, ℕ, Bool, true, false, not, eqb, ltb, ◌⊎◌, List, [], ◌∷◌, filter, sym, refl, ap, ◌∙◌, inl, inr, arith}
use Rattle.std.proofs.lemmas.Bool.{both_ways, ltb-true, not-true, not_from_false, eqb-true, eqb-false, eq-eqb, ne_eqb, and_parts, and_from, or_cases, or_left, or_right, cond_both}
use Rattle.words.specs.declared.member.Member.{Member}
use Rattle.words.specs.Keys.{member_key}
use Rattle.words.specs.Records.{valid_member}
use Rattle.table.specs.Ordered.{ascending, above, same}
use Rattle.book.specs.declared.change.Change.{Change}
use Rattle.book.specs.declared.change.Change.TheVariants.{Starting, Stopping}
use Rattle.book.specs.Asked.{same_member}
use Rattle.book.specs.Matching.{some}
use Rattle.book.specs.Seating.{stays, stayers}
use Rattle.book.specs.Sound.{each, other_port, ports_apart}
use Rattle.book.proofs.Keeping.{same_self as number-self, same_other}
use Rattle.book.proofs.Membership.{stands_some}
use Rattle.book.proofs.Taken.{sound_empty, sound_kept}
use Rattle.rules.specs.Listings.{Listing, blank, has, seated_at, accepts, changed, applied, Whole}
use Rattle.rules.proofs.Lists.{some_here, some_found, kept_was, was_kept, some_entered}

-- the member n is m
abbrev pub is : Member → Member → Bool
is m n = same_member n m

pub same_true : (v w : Member) → is v w ≡ true → v ≡ w
same_true v w e =
    let a = and_parts _ _ e in
    let b = and_parts _ _ a.1 in
    let x = eqb-true _ _ a.0 in
    let y = eqb-true _ _ b.0 in
    let z = eqb-true _ _ b.1 in
    λ i. record { number = sym x i; role = sym y i; port = sym z i }

pub same_self : (v : Member) → is v v ≡ true
same_self v = and_from _ _ (eq-eqb v.number v.number refl) (and_from _ _ (eq-eqb v.role v.role refl) (eq-eqb v.port v.port refl))

-- the member is one of these
abbrev pub among : Member → List Member → Bool
among m ms = some (is m) ms

pub listed_there : (f : Member → Bool) (w : Member) (ms : List Member) → among w ms ≡ true → f w ≡ true → some f ms ≡ true
listed_there = some_here is same_true same_self

pub listed_found : (f : Member → Bool) (ms : List Member) → some f ms ≡ true → (x : Member) × (among x ms ≡ true) × (f x ≡ true)
listed_found = some_found is same_true same_self

pub listed_was : (g : Member → Bool) (w : Member) (ms : List Member) → among w (filter g ms) ≡ true → (among w ms ≡ true) × (g w ≡ true)
listed_was = kept_was is same_true same_self

pub listed_kept : (g : Member → Bool) (w : Member) (ms : List Member) → among w ms ≡ true → g w ≡ true → among w (filter g ms) ≡ true
listed_kept = was_kept is same_true same_self

pub each_listed : (f : Member → Bool) (w : Member) (ms : List Member) → each f ms ≡ true → among w ms ≡ true → f w ≡ true
each_listed f w [] h e = absurd (both_ways false refl e)
each_listed f w (m ∷ ms) h e = go (or_cases _ _ e) (each_listed f w ms (and_parts _ _ h).1)
  where
    go : (is w m ≡ true) ⊎ (among w ms ≡ true) → (among w ms ≡ true → f w ≡ true) → f w ≡ true
    go (inl d) ih = ap f (same_true w m d) ∙ (and_parts _ _ h).0
    go (inr d) ih = ih d

-- no port stands twice
pub port_once : (ms : List Member) → ports_apart ms ≡ true → (v w : Member) → among v ms ≡ true → among w ms ≡ true → v.port ≡ w.port → v ≡ w
port_once [] h v w e f z = absurd (both_ways false refl e)
port_once (m ∷ ms) h v w e f z = go (or_cases _ _ e) (or_cases _ _ f) (port_once ms (and_parts _ _ h).1 v w)
  where
    apart : (x : Member) → among x ms ≡ true → x.port ≡ m.port → ⊥
    apart x k y = eqb-false x.port m.port (not-true _ (each_listed (other_port m.port) x ms (and_parts _ _ h).0 k)) y

    go : (is v m ≡ true) ⊎ (among v ms ≡ true) → (is w m ≡ true) ⊎ (among w ms ≡ true) → (among v ms ≡ true → among w ms ≡ true → v.port ≡ w.port → v ≡ w) → v ≡ w
    go (inl a) (inl b) ih = same_true v m a ∙ sym (same_true w m b)
    go (inl a) (inr b) ih = absurd (apart w b (sym z ∙ ap (λ x. x.port) (same_true v m a)))
    go (inr a) (inl b) ih = absurd (apart v a (z ∙ ap (λ x. x.port) (same_true w m b)))
    go (inr a) (inr b) ih = ih a b z

above_listed : (k : ℕ) (ms : List Member) (w : Member) → above ltb member_key k ms ≡ true → among w ms ≡ true → ltb k w.number ≡ true
above_listed k [] w h e = absurd (both_ways false refl e)
above_listed k (m ∷ ms) w h e = go (or_cases _ _ e) (above_listed k ms w (and_parts _ _ h).1)
  where
    go : (is w m ≡ true) ⊎ (among w ms ≡ true) → (among w ms ≡ true → ltb k w.number ≡ true) → ltb k w.number ≡ true
    go (inl d) ih = ap (λ (x : Member). ltb k x.number) (same_true w m d) ∙ (and_parts _ _ h).0
    go (inr d) ih = ih d

-- no number stands twice
pub number_once : (ms : List Member) → ascending ltb member_key ms ≡ true → (v w : Member) → among v ms ≡ true → among w ms ≡ true → v.number ≡ w.number → v ≡ w
number_once [] h v w e f z = absurd (both_ways false refl e)
number_once (m ∷ ms) h v w e f z = go (or_cases _ _ e) (or_cases _ _ f) (number_once ms (and_parts _ _ h).1 v w)
  where
    apart : (x : Member) → among x ms ≡ true → x.number ≡ m.number → ⊥
    apart x k y = let l = ltb-true m.number x.number (above_listed m.number ms x (and_parts _ _ h).0 k) in omega arith

    go : (is v m ≡ true) ⊎ (among v ms ≡ true) → (is w m ≡ true) ⊎ (among w ms ≡ true) → (among v ms ≡ true → among w ms ≡ true → v.number ≡ w.number → v ≡ w) → v ≡ w
    go (inl a) (inl b) ih = same_true v m a ∙ sym (same_true w m b)
    go (inl a) (inr b) ih = absurd (apart w b (sym z ∙ ap (λ x. x.number) (same_true v m a)))
    go (inr a) (inl b) ih = absurd (apart v a (z ∙ ap (λ x. x.number) (same_true w m b)))
    go (inr a) (inr b) ih = ih a b z

-- to stand exactly so is to be one of the members
pub has_listed : (b : Listing) → Whole b → (w : Member) → has w b ≡ true → among w b.members ≡ true
has_listed b s w e = sym (stands_some w b.members s.numbers) ∙ e

pub listed_has : (b : Listing) → Whole b → (w : Member) → among w b.members ≡ true → has w b ≡ true
listed_has b s w e = stands_some w b.members s.numbers ∙ e

pub blank_whole : Whole blank
blank_whole = sound_empty

pub changed_whole : (b : Listing) (c : Change) → Whole b → accepts b c ≡ true → Whole (changed b c)
changed_whole b c s t = sound_kept b.members b.rules c s t

pub applied_whole : (b : Listing) (c : Change) → Whole b → Whole (applied b c)
applied_whole b c s = cond_both (accepts b c) _ _ Whole (changed_whole b c s) (λ e. s)

pub seated_by : (b : Listing) → Whole b → (w : Member) (p : ℕ) → has w b ≡ true → w.port ≡ p → seated_at p b ≡ true
seated_by b s w p e h = listed_there (λ m. eqb m.port p) w b.members (has_listed b s w e) (eq-eqb w.port p h)

-- a book has at most one member at a port, and one with a number
pub one_at_port : (b : Listing) → Whole b → (v w : Member) → has v b ≡ true → has w b ≡ true → v.port ≡ w.port → v ≡ w
one_at_port b s v w e f z = port_once b.members s.ports v w (has_listed b s v e) (has_listed b s w f) z

pub one_with_number : (b : Listing) → Whole b → (v w : Member) → has v b ≡ true → has w b ≡ true → v.number ≡ w.number → v ≡ w
one_with_number b s v w e f z = number_once b.members s.numbers v w (has_listed b s v e) (has_listed b s w f) z

-- who is left when a member stopped
pub stopped_was : (b : Listing) (w v : Member) → Whole b → has w b ≡ true → has v (changed b (Stopping w)) ≡ true → (has v b ≡ true) × (v.number ≡ w.number → ⊥)
stopped_was b w v s h e =
    let d : Whole (changed b (Stopping w)) = changed_whole b (Stopping w) s h in
    let k = listed_was (λ y. not (same ltb w.number (member_key y))) v b.members (has_listed (changed b (Stopping w)) d v e) in
    (listed_has b s v k.0, λ z. both_ways _ (not-true _ k.1) (number-self w.number v.number (sym z)))

pub stopped_stays : (b : Listing) (w v : Member) → Whole b → has w b ≡ true → has v b ≡ true → (v.number ≡ w.number → ⊥) → has v (changed b (Stopping w)) ≡ true
stopped_stays b w v s h e d =
    listed_has (changed b (Stopping w)) (changed_whole b (Stopping w) s h) v
    (listed_kept (λ y. not (same ltb w.number (member_key y))) v b.members (has_listed b s v e) (not_from_false _ (same_other w.number v.number (λ z. d (sym z)))))

-- who is there when a member took its seat
pub started_was : (b : Listing) (w v : Member) → Whole b → valid_member w ≡ true → has v (changed b (Starting w)) ≡ true
    → (v ≡ w) ⊎ ((has v b ≡ true) × (v.number ≡ w.number → ⊥) × (v.port ≡ w.port → ⊥))
started_was b w v s h e =
    let d : Whole (changed b (Starting w)) = changed_whole b (Starting w) s h in
    go (or_cases _ _ (sym (some_entered (is v) ltb member_key w (stayers w b.members)) ∙ has_listed (changed b (Starting w)) d v e))
  where
    go : (is v w ≡ true) ⊎ (among v (stayers w b.members) ≡ true) → (v ≡ w) ⊎ ((has v b ≡ true) × (v.number ≡ w.number → ⊥) × (v.port ≡ w.port → ⊥))
    go (inl k) = inl (same_true v w k)
    go (inr k) =
        let l = listed_was (stays w) v b.members k in
        let m = and_parts _ _ l.1 in
        inr (listed_has b s v l.0, eqb-false v.number w.number (not-true _ m.0), eqb-false v.port w.port (not-true _ m.1))

pub started_there : (b : Listing) (w : Member) → Whole b → valid_member w ≡ true → has w (changed b (Starting w)) ≡ true
started_there b w s h =
    listed_has (changed b (Starting w)) (changed_whole b (Starting w) s h) w (some_entered (is w) ltb member_key w (stayers w b.members) ∙ or_left _ _ (same_self w))

pub started_stays : (b : Listing) (w v : Member) → Whole b → valid_member w ≡ true → has v b ≡ true → (v.number ≡ w.number → ⊥) → (v.port ≡ w.port → ⊥) → has v (changed b (Starting w)) ≡ true
started_stays b w v s h e d f =
    listed_has (changed b (Starting w)) (changed_whole b (Starting w) s h) v
    (some_entered (is v) ltb member_key w (stayers w b.members)
    ∙ or_right _ _ (listed_kept (stays w) v b.members (has_listed b s v e) (and_from _ _ (not_from_false _ (ne_eqb _ _ d)) (not_from_false _ (ne_eqb _ _ f)))))
