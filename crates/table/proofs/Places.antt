-- What the order law gives of lists in ascending order.
use Rattle.std.proofs.Common.{◌≡◌, ℕ, zero, suc, ◌<◌, ◌≤◌, Bool, true, false, ◌&&◌, List, [], ◌∷◌, ◌++◌, ◌-◌, length, get_or, Some, None, filter, map, sym, refl, ap, ◌∙◌, subst, ⊎_elim, arith}
use Rattle.std.specs.List.{HoldsAt, AllWithin, insert, items_where_true, remove}
use Rattle.std.specs.List.Retain.{IsFiltered}
use Rattle.std.proofs.lemmas.Bool.{false≢true, both_ways, and_parts, and_from, or_parts, not_from_false, cases_Bool, cond-true, cond-false}
use Rattle.std.proofs.Math.Bool.{and-true}
use Rattle.table.specs.Ordered.{Order, same, above, ascending, stands, looked_up, entered, without}

every_head : {R : Type 0} (P : R → Type 0) (x : R) (xs : List R) (i : ℕ) → AllWithin P (x ∷ xs) 0 (suc i) → P x
every_head P x xs i h = h 0 x (omega arith) (omega arith)

every_tail : {R : Type 0} (P : R → Type 0) (x : R) (xs : List R) (i : ℕ) → AllWithin P (x ∷ xs) 0 (suc i) → AllWithin P xs 0 i
every_tail P x xs i h = λ k d a b. h (suc k) d (omega arith) (omega arith)

implied : (a b : Bool) → (b ≡ true → a ≡ true) → b ≡ (a && b)
implied true b h = refl
implied false true h = absurd (false≢true (h refl))
implied false false h = refl

chosen_by : {R : Type 0} (p : R → Bool) (xs : List R) → items_where_true (map p xs) xs ≡ filter p xs
chosen_by p [] = refl
chosen_by p (x ∷ xs) = ⊎_elim (λ t. rw t (ap (λ ys. x ∷ ys) (chosen_by p xs))) (λ f. rw f (chosen_by p xs)) (cases_Bool (p x))

module _ {R K : Type 0} {less : K → K → Bool} (o : Order less) (key : R → K) where
  pub asym : (x y : K) → less x y ≡ true → less y x ≡ false
  asym x y h = ⊎_elim (λ t. absurd (both_ways (less x x) (o.irreflexive x) (o.transitive x y x h t))) (λ f. f) (cases_Bool (less y x))

  pub same_below : (x y : K) → less x y ≡ true → same less x y ≡ false
  same_below x y h = rw h

  pub same_beyond : (x y : K) → less y x ≡ true → same less x y ≡ false
  same_beyond x y h = rw (h, asym y x h)

  pub same_itself : (x y : K) → x ≡ y → same less x y ≡ true
  same_itself x y e = let f = o.irreflexive y in rw (e, f)

  -- neither below nor the same
  beyond : (x y : K) → less x y ≡ false → same less x y ≡ false → less y x ≡ true
  beyond x y f s = ⊎_elim (λ t. t) (λ e. absurd (both_ways (same less x y) s (and_from _ _ (not_from_false _ f) (not_from_false _ e)))) (cases_Bool (less y x))

  above_weaker : (j k : K) (xs : List R) → less j k ≡ true → above less key k xs ≡ true → above less key j xs ≡ true
  above_weaker j k [] h a = refl
  above_weaker j k (x ∷ xs) h a =
      let p = and_parts (less k (key x)) (above less key k xs) a in
      and_from _ _ (o.transitive j k (key x) h p.0) (above_weaker j k xs h p.1)

  absent_above : (k : K) (xs : List R) → above less key k xs ≡ true → stands less key k xs ≡ false
  absent_above k [] a = refl
  absent_above k (x ∷ xs) a =
      let p = and_parts (less k (key x)) (above less key k xs) a in
      let s = same_below k (key x) p.0 in
      rw s (absent_above k xs p.1)

  -- where the search for k ended short of it
  pub absent : (k : K) (xs : List R) (i : ℕ) → ascending less key xs ≡ true → i ≤ length xs → AllWithin (λ y. less (key y) k ≡ true) xs 0 i → (i < length xs → HoldsAt (λ y. less k (key y) ≡ true) xs i) → stands less key k xs ≡ false
  absent k [] i r l e a = refl
  absent k (x ∷ xs) zero r l e a =
      let p = and_parts (above less key (key x) xs) (ascending less key xs) r in
      let b : less k (key x) ≡ true = a (omega arith) x in
      let s = same_below k (key x) b in
      rw s (absent_above k xs (above_weaker k (key x) xs b p.0))
  absent k (x ∷ xs) (suc i) r l e a =
      let p = and_parts (above less key (key x) xs) (ascending less key xs) r in
      let s = same_beyond k (key x) (every_head (λ y. less (key y) k ≡ true) x xs i e) in
      rw s (absent k xs i p.1 (omega arith) (every_tail (λ y. less (key y) k ≡ true) x xs i e) (λ h. a (omega arith)))

  pub present : (k : K) (xs : List R) (i : ℕ) → i < length xs → HoldsAt (λ y. key y ≡ k) xs i → stands less key k xs ≡ true
  present k [] i l a = absurd (omega arith)
  present k (x ∷ xs) zero l a = let s = same_itself k (key x) (sym (a x)) in rw s
  present k (x ∷ xs) (suc i) l a = ⊎_elim (λ t. rw t) (λ f. rw f (present k xs i (omega arith) a)) (cases_Bool (same less k (key x)))

  -- the record at the place where the search for k ended
  pub looked_at : (k : K) (xs : List R) (i : ℕ) (x : R) → i < length xs → AllWithin (λ y. less (key y) k ≡ true) xs 0 i → HoldsAt (λ y. key y ≡ k) xs i → x ≡ get_or xs i x → Some x ≡ looked_up less key k xs
  looked_at k [] i x l e a h = absurd (omega arith)
  looked_at k (y ∷ ys) zero x l e a h = let s = same_itself k (key y) (sym (a y)) in rw s (ap Some h)
  looked_at k (y ∷ ys) (suc i) x l e a h =
      let s = same_beyond k (key y) (every_head (λ z. less (key z) k ≡ true) y ys i e) in
      rw s (looked_at k ys i x (omega arith) (every_tail (λ z. less (key z) k ≡ true) y ys i e) a h)

  pub looked_nowhere : (k : K) (xs : List R) → stands less key k xs ≡ false → None ≡ looked_up less key k xs
  looked_nowhere k [] s = refl
  looked_nowhere k (y ∷ ys) s =
      let q = or_parts (same less k (key y)) (stands less key k ys) s in
      rw q.0 (looked_nowhere k ys q.1)

  pub entered_at : (x : R) (xs : List R) (i : ℕ) → i ≤ length xs → AllWithin (λ y. less (key y) (key x) ≡ true) xs 0 i → (i < length xs → HoldsAt (λ y. less (key x) (key y) ≡ true) xs i) → insert xs i x ≡ entered less key x xs
  entered_at x [] zero l e a = refl
  entered_at x [] (suc i) l e a = absurd (omega arith)
  entered_at x (y ∷ ys) zero l e a = sym (cond-true _ _ _ (a (omega arith) y))
  entered_at x (y ∷ ys) (suc i) l e a =
      let f = asym (key y) (key x) (every_head (λ z. less (key z) (key x) ≡ true) y ys i e) in
      ap (λ zs. y ∷ zs) (entered_at x ys i (omega arith) (every_tail (λ z. less (key z) (key x) ≡ true) y ys i e) (λ h. a (omega arith))) ∙ sym (cond-false _ _ _ f)

  pub above-entered : (k : K) (x : R) (xs : List R) → less k (key x) ≡ true → above less key k xs ≡ true → above less key k (entered less key x xs) ≡ true
  above-entered k x [] h a = rw h
  above-entered k x (y ∷ ys) h a =
      let p = and_parts (less k (key y)) (above less key k ys) a in
      ⊎_elim
      (λ t. rw t (and_from _ _ h a))
      (λ f. rw f (and_from _ _ p.0 (above-entered k x ys h p.1)))
      (cases_Bool (less (key x) (key y)))

  -- x enters where its key does not stand yet, and the order stays
  pub ascending-entered : (x : R) (xs : List R) → ascending less key xs ≡ true → stands less key (key x) xs ≡ false → ascending less key (entered less key x xs) ≡ true
  ascending-entered x [] r s = refl
  ascending-entered x (y ∷ ys) r s =
      let p = and_parts (above less key (key y) ys) (ascending less key ys) r in
      let q = or_parts (same less (key x) (key y)) (stands less key (key x) ys) s in
      ⊎_elim
      (λ t. rw t (and_from _ _ (and_from _ _ t (above_weaker (key x) (key y) ys t p.0)) r))
      (λ f. rw f (and_from _ _ (above-entered (key y) x ys (beyond (key x) (key y) f q.0) p.0) (ascending-entered x ys p.1 q.1)))
      (cases_Bool (less (key x) (key y)))

  above_chosen : (k : K) (bs : List Bool) (xs : List R) → above less key k xs ≡ true → above less key k (items_where_true bs xs) ≡ true
  above_chosen k [] xs a = refl
  above_chosen k (b ∷ bs) [] a = refl
  above_chosen k (true ∷ bs) (x ∷ xs) a =
      let h = and_parts (less k (key x)) (above less key k xs) a in
      and_from _ _ h.0 (above_chosen k bs xs h.1)
  above_chosen k (false ∷ bs) (x ∷ xs) a = above_chosen k bs xs (and_parts (less k (key x)) (above less key k xs) a).1

  -- the records that are marked stay in their order
  pub ascending_marked : (bs : List Bool) (xs : List R) → ascending less key xs ≡ true → ascending less key (items_where_true bs xs) ≡ true
  ascending_marked [] xs r = refl
  ascending_marked (b ∷ bs) [] r = refl
  ascending_marked (true ∷ bs) (x ∷ xs) r =
      let h = and_parts (above less key (key x) xs) (ascending less key xs) r in
      and_from _ _ (above_chosen (key x) bs xs h.0) (ascending_marked bs xs h.1)
  ascending_marked (false ∷ bs) (x ∷ xs) r = ascending_marked bs xs (and_parts (above less key (key x) xs) (ascending less key xs) r).1

  -- and so do those that a test leaves
  pub ascending_kept : (p : R → Bool) (xs : List R) → ascending less key xs ≡ true → ascending less key (filter p xs) ≡ true
  ascending_kept p xs r = subst (λ zs. ascending less key zs ≡ true) (chosen_by p xs) (ascending_marked (map p xs) xs r)

  -- or a closure
  pub ascending_filtered : {F : Type 0} {T : F → R → Bool → F → Type 0} {f : F} (xs ys : List R) → IsFiltered T f xs ys → ascending less key xs ≡ true → ascending less key ys ≡ true
  ascending_filtered xs ys k r = subst (λ zs. ascending less key zs ≡ true) (sym k.4) (ascending_marked k.0 xs r)

  pub without_absent : (k : K) (xs : List R) → stands less key k xs ≡ false → without less key k xs ≡ xs
  without_absent k [] s = refl
  without_absent k (x ∷ xs) s =
      let q = or_parts (same less k (key x)) (stands less key k xs) s in
      rw q.0 (ap (λ ys. x ∷ ys) (without_absent k xs q.1))

  pub without_at : (k : K) (xs : List R) (i : ℕ) → ascending less key xs ≡ true → i < length xs → HoldsAt (λ y. key y ≡ k) xs i → AllWithin (λ y. less (key y) k ≡ true) xs 0 i → remove xs i ≡ without less key k xs
  without_at k [] i r l a e = absurd (omega arith)
  without_at k (x ∷ xs) zero r l a e =
      let p = and_parts (above less key (key x) xs) (ascending less key xs) r in
      let s = same_itself k (key x) (sym (a x)) in
      let up = subst (λ z. above less key z xs ≡ true) (a x) p.0 in
      rw s (sym (without_absent k xs (absent_above k xs up)))
  without_at k (x ∷ xs) (suc i) r l a e =
      let p = and_parts (above less key (key x) xs) (ascending less key xs) r in
      let s = same_beyond k (key x) (every_head (λ y. less (key y) k ≡ true) x xs i e) in
      rw s (ap (λ ys. x ∷ ys) (without_at k xs i p.1 (omega arith) a (every_tail (λ y. less (key y) k ≡ true) x xs i e)))

  above_at : (k : K) (xs : List R) (j : ℕ) (d : R) → above less key k xs ≡ true → j < length xs → less k (key (get_or xs j d)) ≡ true
  above_at k [] j d a l = absurd (omega arith)
  above_at k (x ∷ xs) zero d a l = (and_parts (less k (key x)) (above less key k xs) a).0
  above_at k (x ∷ xs) (suc j) d a l = above_at k xs j d (and_parts (less k (key x)) (above less key k xs) a).1 (omega arith)

  pub rises : (xs : List R) (i j : ℕ) (d : R) → ascending less key xs ≡ true → i < j → j < length xs → less (key (get_or xs i d)) (key (get_or xs j d)) ≡ true
  rises [] i j d r l m = absurd (omega arith)
  rises (x ∷ xs) i zero d r l m = absurd (omega arith)
  rises (x ∷ xs) zero (suc j) d r l m = above_at (key x) xs j d (and_parts (above less key (key x) xs) (ascending less key xs) r).0 (omega arith)
  rises (x ∷ xs) (suc i) (suc j) d r l m = rises xs i j d (and_parts (above less key (key x) xs) (ascending less key xs) r).1 (omega arith) (omega arith)

  above_end : (k : K) (xs : List R) (x : R) → above less key k xs ≡ true → less k (key x) ≡ true → above less key k (xs ++ x ∷ []) ≡ true
  above_end k [] x a h = and_from _ _ h refl
  above_end k (y ∷ ys) x a h = let p = and_parts (less k (key y)) (above less key k ys) a in and_from _ _ p.0 (above_end k ys x p.1 h)

  ends_at : (xs : List R) (i : ℕ) (x d : R) → ascending less key xs ≡ true → length xs ≡ suc i → less (key (get_or xs i d)) (key x) ≡ ascending less key (xs ++ x ∷ [])
  ends_at [] i x d r l = absurd (omega arith)
  ends_at (y ∷ []) zero x d r l = sym (and-true _ ∙ and-true _)
  ends_at (y ∷ []) (suc i) x d r l = absurd (omega arith)
  ends_at (y ∷ z ∷ zs) zero x d r l = absurd (omega arith)
  ends_at (y ∷ z ∷ zs) (suc i) x d r l =
      let p = and_parts (above less key (key y) (z ∷ zs)) (ascending less key (z ∷ zs)) r in
      let e = ends_at (z ∷ zs) i x d p.1 (omega arith) in
      e ∙ implied _ _ (λ t. above_end (key y) (z ∷ zs) x p.0 (o.transitive (key y) _ (key x) (above_at (key y) (z ∷ zs) i d p.0 (omega arith)) (e ∙ t)))

  -- x ends an ascending list exactly if its key is above the last
  pub ascending_end : (xs : List R) (x d : R) → ascending less key xs ≡ true → 0 < length xs → less (key (get_or xs (length xs - 1) d)) (key x) ≡ ascending less key (xs ++ x ∷ [])
  ascending_end xs x d r l = ends_at xs (length xs - 1) x d r (omega arith)

  -- no key stands twice
  pub distinct : (xs : List R) (i j : ℕ) (d : R) → ascending less key xs ≡ true → i < j → j < length xs → key (get_or xs i d) ≡ key (get_or xs j d) → ⊥
  distinct xs i j d r l m e =
      let h = rises xs i j d r l m in
      let k = subst (λ z. less (key (get_or xs i d)) z ≡ true) (sym e) h in
      both_ways _ (o.irreflexive (key (get_or xs i d))) k
