-- What the words of a run carry, word by word. Assumes nothing.
use Rattle.std.proofs.Common.{◌≡◌, ℕ, zero, suc, ◌<◌, Bool, true, false, ◌&&◌, ◌||◌, List, [], ◌∷◌, ◌++◌, length, map, filter, sym, refl, ap, ◌∙◌, subst, inl, inr, ⊎_elim, arith}
use Rattle.std.proofs.lemmas.List.{append-nil, length_push}
use Rattle.std.proofs.Math.Bool.{or-false}
use Rattle.std.proofs.lemmas.List.{map-append}
use Rattle.std.proofs.lemmas.List.Elements.{filter-append}
use Rattle.std.proofs.lemmas.List.Folds.{list_all-append, list_any-append}
use Rattle.std.proofs.lemmas.Bool.{cases_Bool, cases_eq, and_from}
use Rattle.words.specs.Books.{count_below, some_below, word_of, words_before}
use Rattle.book.specs.Sound.{each}
use Rattle.book.specs.Matching.{some}
use Rattle.book.specs.Laws.{In}
use Rattle.book.specs.Octets.{carried}

pub each_push : {A : Type 0} (q : A → Bool) (xs : List A) (x : A) → each q xs ≡ true → q x ≡ true → each q (xs ++ (x ∷ [])) ≡ true
each_push q xs x e h = list_all-append q xs (x ∷ []) ∙ and_from _ _ e (and_from _ _ h refl)

some_push : {A : Type 0} (q : A → Bool) (xs : List A) (x : A) → some q (xs ++ (x ∷ [])) ≡ (some q xs || q x)
some_push q xs x = list_any-append q xs (x ∷ []) ∙ ap (λ b. some q xs || b) (or-false (q x))

in_front : {A : Type 0} (x : A) (xs ys : List A) → In x xs → In x (xs ++ ys)
in_front x [] ys i = absurd i
in_front x (y ∷ xs) ys (inl e) = inl e
in_front x (y ∷ xs) ys (inr i) = inr (in_front x xs ys i)

in_last : {A : Type 0} (x : A) (xs : List A) → In x (xs ++ (x ∷ []))
in_last x [] = inl refl
in_last x (y ∷ xs) = inr (in_last x xs)

module _ {A : Type 0} (p : ℕ → Bool) (f : ℕ → A) where
  pub carried-append : (vs ws : List ℕ) → carried p f (vs ++ ws) ≡ carried p f vs ++ carried p f ws
  carried-append vs ws = ap (λ us. map f us) (filter-append p vs ws) ∙ map-append f (filter p vs) (filter p ws)

  pub carried_yes : (ws : List ℕ) (w : ℕ) → p w ≡ true → carried p f (ws ++ (w ∷ [])) ≡ carried p f ws ++ (f w ∷ [])
  carried_yes ws w h = carried-append ws (w ∷ []) ∙ rw h

  pub carried_no : (ws : List ℕ) (w : ℕ) → p w ≡ false → carried p f (ws ++ (w ∷ [])) ≡ carried p f ws
  carried_no ws w h = carried-append ws (w ∷ []) ∙ rw h (append-nil (carried p f ws))

  -- one word more carries one thing more, or nothing
  step : (P : List A → Type 0) (xs : List ℕ) (k : ℕ) → (p (word_of xs k) ≡ true → P (carried p f (words_before xs k) ++ (f (word_of xs k) ∷ []))) → (p (word_of xs k) ≡ false → P (carried p f (words_before xs k)))
      → P (carried p f (words_before xs (suc k)))
  step P xs k a b =
      ⊎_elim (λ (q : p (word_of xs k) ≡ true). subst P (sym (carried_yes (words_before xs k) (word_of xs k) q)) (a q))
      (λ (q : p (word_of xs k) ≡ false). subst P (sym (carried_no (words_before xs k) (word_of xs k) q)) (b q))
      (cases_Bool (p (word_of xs k)))

  pub length-carried : (xs : List ℕ) (k : ℕ) → length (carried p f (words_before xs k)) ≡ count_below (λ j. p (word_of xs j)) k
  length-carried xs zero = refl
  length-carried xs (suc k) =
      let r = length-carried xs k in
      step (λ zs. length zs ≡ count_below (λ j. p (word_of xs j)) (suc k)) xs k (λ q. length_push (carried p f (words_before xs k)) (f (word_of xs k)) ∙ rw q (omega arith)) (λ q. rw q (omega arith))

  pub carried-each : (q : A → Bool) (xs : List ℕ) (k : ℕ) → ((j : ℕ) → j < k → p (word_of xs j) ≡ true → q (f (word_of xs j)) ≡ true) → each q (carried p f (words_before xs k)) ≡ true
  carried-each q xs zero h = refl
  carried-each q xs (suc k) h =
      let r = carried-each q xs k (λ j l. h j (omega arith)) in
      step (λ zs. each q zs ≡ true) xs k (λ e. each_push q _ _ r (h k (omega arith) e)) (λ e. r)

  pub carried_none : (xs : List ℕ) (k : ℕ) → ((j : ℕ) → j < k → p (word_of xs j) ≡ false) → carried p f (words_before xs k) ≡ []
  carried_none xs zero h = refl
  carried_none xs (suc k) h = carried_no (words_before xs k) (word_of xs k) (h k (omega arith)) ∙ carried_none xs k (λ j l. h j (omega arith))

  -- some word is as s seeks where it carries something as q seeks
  pub carried_some : (q : A → Bool) (s : ℕ → Bool) (xs : List ℕ) (k : ℕ) → ((w : ℕ) → s w ≡ (p w && q (f w))) → some_below (λ j. s (word_of xs j)) k ≡ some q (carried p f (words_before xs k))
  carried_some q s xs zero h = refl
  carried_some q s xs (suc k) h =
      let r = carried_some q s xs k h in
      let w = word_of xs k in
      step (λ zs. some_below (λ j. s (word_of xs j)) (suc k) ≡ some q zs) xs k
      (λ e. rw (r, h w, e) (sym (some_push q (carried p f (words_before xs k)) (f w))))
      (λ e. rw (r, h w, e) (or-false (some q (carried p f (words_before xs k)))))

  pub carried_in : (xs : List ℕ) (k j : ℕ) → j < k → p (word_of xs j) ≡ true → In (f (word_of xs j)) (carried p f (words_before xs k))
  carried_in xs zero j l h = absurd (omega arith)
  carried_in xs (suc k) j l h =
      ⊎_elim
      (λ (e : j ≡ k).
      let g : p (word_of xs k) ≡ true = rw e at h in
      rw (e, carried_yes (words_before xs k) (word_of xs k) g) (in_last (f (word_of xs k)) (carried p f (words_before xs k))))
      (λ (e : j ≡ k → ⊥).
      let i = carried_in xs k j (omega arith) h in
      step (λ zs. In (f (word_of xs j)) zs) xs k (λ q. in_front _ _ _ i) (λ q. i))
      (cases_eq j k)

  -- what holds of every two things in their order
  pub carried_pairs : (P : List A → Type 0) (q : A → A → Bool) → P [] → ((ys : List A) (y : A) → P ys → each (λ x. q x y) ys ≡ true → P (ys ++ (y ∷ []))) → (xs : List ℕ) (k : ℕ)
      → ((i j : ℕ) → i < j → j < k → p (word_of xs i) ≡ true → p (word_of xs j) ≡ true → q (f (word_of xs i)) (f (word_of xs j)) ≡ true) → P (carried p f (words_before xs k))
  carried_pairs P q n m xs zero h = n
  carried_pairs P q n m xs (suc k) h =
      let r = carried_pairs P q n m xs k (λ i j l o. h i j l (omega arith)) in
      step P xs k (λ e. m _ _ r (carried-each (λ x. q x (f (word_of xs k))) xs k (λ j l g. h j k l (omega arith) g e))) (λ e. r)
