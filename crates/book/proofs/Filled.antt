-- A list is filled with what the words of a run carry, word by word. Assumes nothing.
use Rattle.std.proofs.Common.{◌≡◌, ℕ, zero, suc, ◌+◌, ◌<◌, ◌≤◌, Bool, true, false, ◌&&◌, ltb, List, [], ◌∷◌, ◌++◌, length, Option, Some, sym, refl, ◌∙◌, ⊎_elim, add-one, arith}
use Rattle.std.specs.Iterator.{Yields}
use Rattle.std.proofs.lemmas.Bool.{and_from, and_parts, cases_Bool, cases_eq, lt-ltb}
use Rattle.std.proofs.lemmas.List.{get_or_default}
use Rattle.std.proofs.lemmas.Iterator.{YieldsList}
use Rattle.std.proofs.lemmas.Iterator.Consumers.{YieldsList-turn}
use Rattle.words.proofs.Listed.{length-words_before, word_listed}
use Rattle.table.specs.Ordered.{above, ascending}
use Rattle.words.specs.Books.{count_below, word_of, words_before, words_in, words_of}
use Rattle.words.proofs.Whole.{counts_up}
use Rattle.book.specs.Octets.{carried, put_behind}
use Rattle.book.proofs.Carried.{carried-append, carried_no, carried_yes, length-carried}

-- what ascends ascends to its front
above_front : {A K : Type 0} (less : K → K → Bool) (key : A → K) (k : K) (xs ys : List A) → above less key k (xs ++ ys) ≡ true → above less key k xs ≡ true
above_front less key k [] ys h = refl
above_front less key k (x ∷ xs) ys h = let a = and_parts (less k (key x)) (above less key k (xs ++ ys)) h in and_from _ _ a.0 (above_front less key k xs ys a.1)

ascending_front : {A K : Type 0} (less : K → K → Bool) (key : A → K) (xs ys : List A) → ascending less key (xs ++ ys) ≡ true → ascending less key xs ≡ true
ascending_front less key [] ys h = refl
ascending_front less key (x ∷ xs) ys h =
    let a = and_parts (above less key (key x) (xs ++ ys)) (ascending less key (xs ++ ys)) h in
    and_from _ _ (above_front less key (key x) xs ys a.0) (ascending_front less key xs ys a.1)

module _ {A K : Type 0} (less : K → K → Bool) (key : A → K) (p : ℕ → Bool) (f : ℕ → A) (xs : List ℕ) where
  ascending_before : (k n : ℕ) → k ≤ n → ascending less key (carried p f (words_before xs n)) ≡ true → ascending less key (carried p f (words_before xs k)) ≡ true
  ascending_before k zero l h = let e : k ≡ 0 = omega arith in rw e h
  ascending_before k (suc n) l h =
      ⊎_elim (λ (e : k ≡ suc n). rw e h)
      (λ (e : k ≡ suc n → ⊥).
      let c : ascending less key (carried p f (words_before xs n) ++ carried p f (word_of xs n ∷ [])) ≡ true = rw (carried-append p f (words_before xs n) (word_of xs n ∷ [])) at h in
      ascending_before k n (omega arith) (ascending_front less key _ _ c))
      (cases_eq k (suc n))

  -- one word more; it is above those before it and there is room, since all ascend and there is room for all
  pub filled_more : (limit : ℕ) (k w : ℕ) (ys zs : List A) → k < words_in xs → count_below (λ j. p (word_of xs j)) (words_in xs) ≤ limit → ascending less key (carried p f (words_of xs)) ≡ true
      → w ≡ word_of xs k → ys ≡ carried p f (words_before xs k) → zs ≡ put_behind limit (p w && ascending less key (ys ++ (f w ∷ []))) (f w) ys → zs ≡ carried p f (words_before xs (k + 1))
  filled_more limit k w ys zs l c a e h g =
      let ws = words_before xs k in
      let v = word_of xs k in
      let g' : zs ≡ put_behind limit (p v && ascending less key (carried p f ws ++ (f v ∷ []))) (f v) (carried p f ws) = g ∙ rw (e, h) in
      ⊎_elim
      (λ (q : p v ≡ true).
      let n = length-carried p f xs k in
      let m = counts_up (λ j. p (word_of xs j)) k (words_in xs) l q in
      let r : ltb (length (carried p f ws)) limit ≡ true = lt-ltb _ limit (omega arith) in
      let b = ascending_before (suc k) (words_in xs) (omega arith) a in
      let o : ascending less key (carried p f ws ++ (f v ∷ [])) ≡ true = rw (carried_yes p f ws v q) at b in
      g' ∙ rw (add-one k, q, o, r) (sym (carried_yes p f ws v q)))
      (λ (q : p v ≡ false). g' ∙ rw (add-one k, q) (sym (carried_no p f ws v q)))
      (cases_Bool (p v))

-- the words of a run in their turn
module _ {S : Type 0} {steps : S → Option ℕ → S → Type 0} {s : S} (xs seen : List ℕ) (t : S) (y : Yields steps s seen t) (r : Option ℕ) (u : S) (n : steps t r u) (road : YieldsList steps (λ w. w) s (words_of xs)) where
  pub run_turn : (w : ℕ) → r ≡ Some w → (length seen < words_in xs) × (w ≡ word_of xs (length seen))
  run_turn w is =
      let p = YieldsList-turn road seen t y r u w is n in
      let l : length seen < words_in xs = omega (arith, p.0, length-words_before xs (words_in xs)) in
      (l, p.1 ∙ (get_or_default (words_of xs) (length seen) w 0 p.0 ∙ word_listed xs (words_in xs) (length seen) l))
