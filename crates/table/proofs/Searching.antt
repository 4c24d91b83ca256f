-- A binary search among records in ascending order ends where a key stands, or where it belongs.
use Rattle.std.proofs.Common.{◌≡◌, ℕ, ◌≤◌, ◌<◌, Bool, true, false, cond, ◌⊎◌, List, length, get_or, ltb, Ok, Err, Result, Ordering, Less, Equal, Greater, is_lt, sym, refl, subst, inl, inr, ⊎_elim, arith}
use Rattle.std.specs.List.Sorted.{IsSearchInRange, IsBinarySearchResult, IsNonDecreasingBy}
use Rattle.std.specs.Ordering.{MatchOrdering, ordering_index}
use Rattle.std.proofs.lemmas.Bool.{both_ways, cases_Bool, ltb-true, ltb-false}
use Rattle.table.specs.Ordered.{Order, Found, ascending}
use Rattle.table.proofs.Places.{asym, rises}

-- how two keys stand to each other, by their order
abbrev pub compared : {K : Type 0} → (K → K → Bool) → K → K → Ordering
compared less x y = cond (less x y) Less (cond (less y x) Greater Equal)

equal_or_below : (i j : ℕ) → i ≤ j → (i ≡ j) ⊎ (i < j)
equal_or_below i j l = ⊎_elim (λ t. inr (ltb-true i j t)) (λ f. let m = ltb-false i j f in inl (omega arith)) (cases_Bool (ltb i j))

module _ {K : Type 0} {less : K → K → Bool} (o : Order less) where
  -- what `compare` answers
  pub compared_is : (x y : K) (r : Ordering) → MatchOrdering r (less x y ≡ true) (x ≡ y) (less y x ≡ true) → r ≡ compared less x y
  compared_is x y Less h = rw h
  compared_is x y Equal h = let i = o.irreflexive y in rw (h, i)
  compared_is x y Greater h = let f = asym o (λ z. z) y x h in rw (f, h)

  -- and whether that is `Less`
  pub below : (x y : K) (r : Ordering) → MatchOrdering r (less x y ≡ true) (x ≡ y) (less y x ≡ true) → is_lt r ≡ less x y
  below x y Less h = sym h
  below x y Equal h = let i = o.irreflexive y in rw (h, i)
  below x y Greater h = sym (asym o (λ z. z) y x h)

  by_tests : (x y : K) (a b : Bool) → less x y ≡ a → less y x ≡ b → MatchOrdering (cond a Less (cond b Greater Equal)) (less x y ≡ true) (x ≡ y) (less y x ≡ true)
  by_tests x y true b p q = p
  by_tests x y false true p q = q
  by_tests x y false false p q = o.total x y p q

  told : (x y : K) (r : Ordering) → compared less x y ≡ r → MatchOrdering r (less x y ≡ true) (x ≡ y) (less y x ≡ true)
  told x y r e = subst (λ s. MatchOrdering s (less x y ≡ true) (x ≡ y) (less y x ≡ true)) e (by_tests x y (less x y) (less y x) refl refl)

  -- what a record's key is to k never falls from one record to a later one
  steps : (x y k : K) (r s : Ordering) → less x y ≡ true → MatchOrdering r (less x k ≡ true) (x ≡ k) (less k x ≡ true) → MatchOrdering s (less y k ≡ true) (y ≡ k) (less k y ≡ true) → ordering_index r ≤ ordering_index s
  steps x y k Less s h p q = omega arith
  steps x y k Equal Less h p q = absurd (both_ways _ (asym o (λ z. z) y k q) (subst (λ z. less z y ≡ true) p h))
  steps x y k Equal Equal h p q = omega arith
  steps x y k Equal Greater h p q = omega arith
  steps x y k Greater Less h p q = absurd (both_ways _ (asym o (λ z. z) y k q) (o.transitive k x y p h))
  steps x y k Greater Equal h p q = absurd (both_ways _ (asym o (λ z. z) k x p) (subst (λ z. less x z ≡ true) q h))
  steps x y k Greater Greater h p q = omega arith

  module _ {R : Type 0} (key : R → K) (k : K) (xs : List R) (up : ascending less key xs ≡ true) where
    rise : IsNonDecreasingBy (λ y. ordering_index (compared less (key y) k)) xs
    rise i j d l m =
        ⊎_elim
        (λ e. rw e (omega arith))
        (λ lt. steps (key (get_or xs i d)) (key (get_or xs j d)) k _ _ (rises o key xs i j d up lt m) (told (key (get_or xs i d)) k _ refl) (told (key (get_or xs j d)) k _ refl))
        (equal_or_below i j l)

    -- where the search for k ended
    pub found : (r : Result ℕ ℕ) → IsSearchInRange r (length xs) → IsBinarySearchResult (λ y. compared less (key y) k) xs r → Found less key xs k r
    found (Ok i) within here =
        let at : (d : R) → key (get_or xs i d) ≡ k = λ d. told _ _ Equal (here d) in
        (within, λ j d z lt. subst (λ y. less (key (get_or xs j d)) y ≡ true) (at d) (rises o key xs j i d up lt within), at)
    found (Err i) within parted =
        let p = parted rise in
        (within, λ j d z lt. told _ _ Less (p.0 j d z lt), λ lt d. told _ _ Greater (p.1 i d (omega arith) lt))
