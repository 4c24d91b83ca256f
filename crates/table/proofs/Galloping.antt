-- What one record, or a part of the records, says of where a key stands among all of them, since they ascend.
use Rattle.std.proofs.Common.{◌≡◌, ℕ, zero, suc, ◌+◌, ◌-◌, ◌<◌, ◌≤◌, Bool, true, List, [], ◌∷◌, length, get_or, take, drop, ltb, Ok, Err, Result, sym, refl, ap, ◌∙◌, subst, ⊎_elim, arith}
use Rattle.std.specs.List.{AllWithin, HoldsAt, between}
use Rattle.std.specs.List.Sorted.{IsSearchInRange, IsBinarySearchResult}
use Rattle.std.proofs.lemmas.Bool.{and_parts, and_from, cases_Bool, ltb-true, ltb-false}
use Rattle.std.proofs.lemmas.List.Edits.{length-between, get_or-between}
use Rattle.table.specs.Ordered.{Order, Found, above, ascending}
use Rattle.table.proofs.Places.{rises}
use Rattle.table.proofs.Searching.{compared, found}

module _ {R K : Type 0} (less : K → K → Bool) (key : R → K) where
  above_front : (k : K) (n : ℕ) (xs : List R) → above less key k xs ≡ true → above less key k (take n xs) ≡ true
  above_front k zero xs a = refl
  above_front k (suc n) [] a = refl
  above_front k (suc n) (x ∷ xs) a =
      let p = and_parts (less k (key x)) (above less key k xs) a in
      and_from _ _ p.0 (above_front k n xs p.1)

  ascending_front : (n : ℕ) (xs : List R) → ascending less key xs ≡ true → ascending less key (take n xs) ≡ true
  ascending_front zero xs r = refl
  ascending_front (suc n) [] r = refl
  ascending_front (suc n) (x ∷ xs) r =
      let p = and_parts (above less key (key x) xs) (ascending less key xs) r in
      and_from _ _ (above_front (key x) n xs p.0) (ascending_front n xs p.1)

  ascending_rest : (n : ℕ) (xs : List R) → ascending less key xs ≡ true → ascending less key (drop n xs) ≡ true
  ascending_rest zero xs r = r
  ascending_rest (suc n) [] r = refl
  ascending_rest (suc n) (x ∷ xs) r = ascending_rest n xs (and_parts (above less key (key x) xs) (ascending less key xs) r).1

  -- a part of what ascends does too
  ascending_between : (low high : ℕ) (xs : List R) → ascending less key xs ≡ true → ascending less key (between low high xs) ≡ true
  ascending_between low high xs r = ascending_front (high - low) (drop low xs) (ascending_rest low xs r)

-- a place in a part that begins at low, as a place in the whole
abbrev pub from : ℕ → Result ℕ ℕ → Result ℕ ℕ
from low (Ok i) = Ok (low + i)
from low (Err i) = Err (low + i)

-- low and high bound the part: every key before low is below k, and the one at high is above k
module _ {R K : Type 0} (less : K → K → Bool) (key : R → K) (k : K) (xs : List R) (low high : ℕ) (l : low ≤ high) (m : high ≤ length xs) (before : AllWithin (λ y. less (key y) k ≡ true) xs 0 low) (behind : high < length xs → HoldsAt (λ y. less k (key y) ≡ true) xs high) where
  all_before : (i : ℕ) → low + i ≤ high → AllWithin (λ y. less (key y) k ≡ true) (between low high xs) 0 i → AllWithin (λ y. less (key y) k ≡ true) xs 0 (low + i)
  all_before i h below j d z lt =
      ⊎_elim
      (λ t. before j d z (ltb-true j low t))
      (λ f.
      let ge : low ≤ j = ltb-false j low f in
      let same : low + (j - low) ≡ j = omega arith in
      let read : get_or (between low high xs) (j - low) d ≡ get_or xs j d = get_or-between xs low high (j - low) d (omega arith) ∙ ap (λ n. get_or xs n d) same in
      subst (λ y. less (key y) k ≡ true) read (below (j - low) d (omega arith) (omega arith)))
      (cases_Bool (ltb j low))

  -- where k was found in the part, it is found in the whole
  lifted : (r : Result ℕ ℕ) → Found less key (between low high xs) k r → Found less key xs k (from low r)
  lifted (Ok i) f =
      let n = length-between xs low high m in
      let inside : low + i < high = omega (arith, f.0) in
      (omega arith, all_before i (omega arith) f.1, λ d. subst (λ y. key y ≡ k) (get_or-between xs low high i d inside) (f.2 d))
  lifted (Err i) f =
      let n = length-between xs low high m in
      let inside : low + i ≤ high = omega (arith, f.0) in (
        omega arith,
        all_before i inside f.1,
        λ lt d.
            ⊎_elim
            (λ t.
            let short = ltb-true (low + i) high t in
            subst (λ y. less k (key y) ≡ true) (get_or-between xs low high i d short) (f.2 (omega arith) d))
            (λ g.
            let e : high ≡ low + i = let ge = ltb-false (low + i) high g in omega arith in
            subst (λ j. less k (key (get_or xs j d)) ≡ true) e (behind (omega arith) d))
            (cases_Bool (ltb (low + i) high)),
      )

  -- where the search for k in the part ended
  pub found_between : Order less → ascending less key xs ≡ true → (r : Result ℕ ℕ) → IsSearchInRange r (length (between low high xs)) → IsBinarySearchResult (λ y. compared less (key y) k) (between low high xs) r → Found less key xs k (from low r)
  found_between o up r within parted = lifted r (found o key k (between low high xs) (ascending_between less key low high xs up) r within parted)

-- x stands at i
module _ {R K : Type 0} {less : K → K → Bool} (o : Order less) (key : R → K) (k : K) (xs : List R) (up : ascending less key xs ≡ true) (i : ℕ) (inside : i < length xs) (x : R) (read : (d : R) → x ≡ get_or xs i d) where
  -- if it is below k, so are all before it
  pub passed : less (key x) k ≡ true → AllWithin (λ y. less (key y) k ≡ true) xs 0 (i + 1)
  passed h j d z lt =
      let here : less (key (get_or xs i d)) k ≡ true = subst (λ y. less (key y) k ≡ true) (read d) h in
      ⊎_elim
      (λ t. o.transitive (key (get_or xs j d)) (key (get_or xs i d)) k (rises o key xs j i d up (ltb-true j i t) inside) here)
      (λ f.
      let e : i ≡ j = let ge = ltb-false j i f in omega arith in
      subst (λ n. less (key (get_or xs n d)) k ≡ true) e here)
      (cases_Bool (ltb j i))

  -- if its key is k, it is the first that is not below k
  pub met : key x ≡ k → Found less key xs k (Ok i)
  met h =
      let here : (d : R) → key (get_or xs i d) ≡ k = λ d. ap key (sym (read d)) ∙ h in
      (inside, λ j d z lt. subst (λ y. less (key (get_or xs j d)) y ≡ true) (here d) (rises o key xs j i d up lt inside), here)
