-- What stands in a list, when some of it is kept and one more enters. Assumes nothing.
use Rattle.std.proofs.Common.{◌≡◌, Bool, true, false, cond, ◌||◌, ◌⊎◌, List, [], ◌∷◌, filter, sym, refl, ap, ◌∙◌, subst, inl, inr}
use Rattle.std.proofs.lemmas.Bool.{both_ways, or_cases, or_left, or_right}
use Rattle.table.specs.Ordered.{entered}
use Rattle.book.specs.Matching.{some}

-- eq tells elements apart
module _ {A : Type 0} (eq : A → A → Bool) (sound : (v w : A) → eq v w ≡ true → v ≡ w) (self : (v : A) → eq v v ≡ true) where
  pub some_here : (f : A → Bool) (w : A) (xs : List A) → some (eq w) xs ≡ true → f w ≡ true → some f xs ≡ true
  some_here f w [] e h = e
  some_here f w (x ∷ xs) e h = go (or_cases (eq w x) (some (eq w) xs) e) (some_here f w xs)
    where
      go : (eq w x ≡ true) ⊎ (some (eq w) xs ≡ true) → (some (eq w) xs ≡ true → f w ≡ true → some f xs ≡ true) → f x || some f xs ≡ true
      go (inl d) ih = or_left _ _ (subst (λ (y : A). f y ≡ true) (sound w x d) h)
      go (inr d) ih = or_right _ _ (ih d h)

  pub some_found : (f : A → Bool) (xs : List A) → some f xs ≡ true → (x : A) × (some (eq x) xs ≡ true) × (f x ≡ true)
  some_found f [] e = absurd (both_ways false refl e)
  some_found f (x ∷ xs) e = go (or_cases (f x) (some f xs) e) (some_found f xs)
    where
      go : (f x ≡ true) ⊎ (some f xs ≡ true) → (some f xs ≡ true → (y : A) × (some (eq y) xs ≡ true) × (f y ≡ true)) → (y : A) × (eq y x || some (eq y) xs ≡ true) × (f y ≡ true)
      go (inl d) ih = (x, or_left _ _ (self x), d)
      go (inr d) ih = let r = ih d in (r.0, or_right _ _ r.1, r.2)

  -- what is kept was there, and passes
  pub kept_was : (g : A → Bool) (w : A) (xs : List A) → some (eq w) (filter g xs) ≡ true → (some (eq w) xs ≡ true) × (g w ≡ true)
  kept_was g w [] e = absurd (both_ways false refl e)
  kept_was g w (x ∷ xs) e = go (g x) refl e (kept_was g w xs)
    where
      go : (v : Bool) → g x ≡ v → some (eq w) (cond v (x ∷ filter g xs) (filter g xs)) ≡ true → (some (eq w) (filter g xs) ≡ true → (some (eq w) xs ≡ true) × (g w ≡ true)) → (eq w x || some (eq w) xs ≡ true) × (g w ≡ true)
      go true t d ih = go2 (or_cases _ _ d)
        where
          go2 : (eq w x ≡ true) ⊎ (some (eq w) (filter g xs) ≡ true) → (eq w x || some (eq w) xs ≡ true) × (g w ≡ true)
          go2 (inl k) = (or_left _ _ k, subst (λ (y : A). g y ≡ true) (sym (sound w x k)) t)
          go2 (inr k) = let r = ih k in (or_right _ _ r.0, r.1)
      go false t d ih = let r = ih d in (or_right _ _ r.0, r.1)

  pub was_kept : (g : A → Bool) (w : A) (xs : List A) → some (eq w) xs ≡ true → g w ≡ true → some (eq w) (filter g xs) ≡ true
  was_kept g w [] e h = e
  was_kept g w (x ∷ xs) e h = go (g x) refl (or_cases _ _ e) (was_kept g w xs)
    where
      go : (v : Bool) → g x ≡ v → (eq w x ≡ true) ⊎ (some (eq w) xs ≡ true) → (some (eq w) xs ≡ true → g w ≡ true → some (eq w) (filter g xs) ≡ true) → some (eq w) (cond v (x ∷ filter g xs) (filter g xs)) ≡ true
      go true t (inl k) ih = or_left _ _ k
      go true t (inr k) ih = or_right _ _ (ih k h)
      go false t (inl k) ih = absurd (both_ways (g x) t (subst (λ (y : A). g y ≡ true) (sound w x k) h))
      go false t (inr k) ih = ih k h

pub some_entered : {A K : Type 0} (f : A → Bool) (less : K → K → Bool) (key : A → K) (x : A) (xs : List A) → some f (entered less key x xs) ≡ (f x || some f xs)
some_entered f less key x [] = refl
some_entered f less key x (y ∷ ys) = go (less (key x) (key y)) (some_entered f less key x ys)
  where
    swap : (a b c : Bool) → a || (b || c) ≡ b || (a || c)
    swap true true c = refl
    swap true false c = refl
    swap false true c = refl
    swap false false c = refl

    go : (v : Bool) → some f (entered less key x ys) ≡ (f x || some f ys) → some f (cond v (x ∷ (y ∷ ys)) (y ∷ entered less key x ys)) ≡ (f x || (f y || some f ys))
    go true ih = refl
    go false ih = ap (λ c. f y || c) ih ∙ swap (f y) (f x) (some f ys)
