-- A run in which no word is wrong is a book. Assumes nothing.
use Rattle.std.proofs.Common.{◌≡◌, ℕ, zero, suc, ◌-◌, ◌%◌, ◌<◌, ◌≤◌, Bool, true, false, cond, eqb, ltb, List, length, Some, None, Option, refl, inl, inr, ⊎_elim, add-one, arith}
use Rattle.std.proofs.lemmas.Bool.{cases_Bool, cases_eq, and_parts, or_parts, or_cases, eqb-true, eqb-false, ltb-true, not-true}
use Rattle.words.specs.Words.{number_of, tail_of}
use Rattle.words.specs.Records.{is_member, is_rule}
use Rattle.words.specs.Books.{some_below, first_wrong, or_else, is_none, wrong_word, words_in, word_of, fits, sits, ascends, stands, in_seat, numbered, members_before, rules_before, book_sound}
use Rattle.words.specs.Laws.{SoundIsBook}
use Rattle.words.proofs.Books.{Turned, turn, one_more, member_no_rule}

none_of : (o : Option ℕ) → is_none o ≡ true → o ≡ None
none_of None e = refl
none_of (Some x) e = let z : ◌≡◌ {A = ℕ} 0 1 = cc in absurd (omega arith)

none_both : (o p : Option ℕ) → or_else o p ≡ None → (o ≡ None) × (p ≡ None)
none_both None p e = (refl, e)
none_both (Some x) p e = let z : ◌≡◌ {A = ℕ} 0 1 = cc in absurd (omega arith)

none_cond : (b : Bool) (n : ℕ) → cond b None (Some n) ≡ None → b ≡ true
none_cond true n e = refl
none_cond false n e = let z : ◌≡◌ {A = ℕ} 0 1 = cc in absurd (omega arith)

pub all_right : (f : ℕ → Bool) (n k : ℕ) → first_wrong f n ≡ None → k < n → f k ≡ true
all_right f zero k e h = absurd (omega arith)
all_right f (suc n) k e h =
    let p = none_both (first_wrong f n) (cond (f n) None (Some n)) e in
    ⊎_elim (λ (q : k ≡ n). rw q (none_cond (f n) n p.1))
    (λ (q : k ≡ n → ⊥). all_right f n k p.0 (omega arith))
    (cases_eq k n)

none_at : (f : ℕ → Bool) (n k : ℕ) → some_below f n ≡ false → k < n → f k ≡ false
none_at f zero k e h = absurd (omega arith)
none_at f (suc n) k e h =
    let p = or_parts (some_below f n) (f n) e in
    ⊎_elim (λ (q : k ≡ n). rw q p.1)
    (λ (q : k ≡ n → ⊥). none_at f n k p.0 (omega arith))
    (cases_eq k n)

some_at : (f : ℕ → Bool) (n : ℕ) → some_below f n ≡ true → (k : ℕ) × (k < n) × (f k ≡ true)
some_at f zero e = let z : ◌≡◌ {A = ℕ} 0 1 = cc in absurd (omega arith)
some_at f (suc n) e =
    ⊎_elim (λ (q : some_below f n ≡ true). let r = some_at f n q in (r.0, omega arith, r.2))
    (λ (q : f n ≡ true). (n, omega arith, q))
    (or_cases (some_below f n) (f n) e)

pub rule_no_member : (w : ℕ) → is_rule w ≡ true → is_member w ≡ false
rule_no_member w h =
    ⊎_elim (λ (m : is_member w ≡ true). let n = member_no_rule w m in let z : ◌≡◌ {A = ℕ} 0 1 = cc in absurd (omega arith)) (λ (m : is_member w ≡ false). m)
    (cases_Bool (is_member w))

module _ (xs : List ℕ) (right : (k : ℕ) → k < words_in xs → fits xs k ≡ true) where
  sits_at : (k : ℕ) → k < words_in xs → sits xs k (word_of xs k) ≡ true
  sits_at k h = (and_parts (ascends xs k) _ (right k h)).1

  next : (j : ℕ) → suc j < words_in xs → word_of xs j < word_of xs (suc j)
  next j h =
      let a : ascends xs (suc j) ≡ true = (and_parts (ascends xs (suc j)) _ (right (suc j) h)).0 in
      let e : suc j - 1 ≡ j = omega arith in
      ⊎_elim (λ (q : eqb (suc j) 0 ≡ true). absurd (omega (arith, eqb-true (suc j) 0 q)))
      (λ (q : ltb (word_of xs (suc j - 1)) (word_of xs (suc j)) ≡ true). rw e at (ltb-true (word_of xs (suc j - 1)) (word_of xs (suc j)) q))
      (or_cases (eqb (suc j) 0) _ a)

  rises : (i j : ℕ) → i < j → j < words_in xs → word_of xs i < word_of xs j
  rises i zero l h = absurd (omega arith)
  rises i (suc j) l h =
      let s : word_of xs j < word_of xs (suc j) = next j h in
      ⊎_elim (λ (q : i ≡ j). rw q s)
      (λ (q : i ≡ j → ⊥). let r = rises i j (omega arith) (omega arith) in omega arith)
      (cases_eq i j)

  counted : (n : ℕ) → n ≤ words_in xs → first_wrong (fits xs) n ≡ None → Turned xs n (members_before xs n) (rules_before xs n)
  counted zero l e = (refl, refl, refl, omega arith, omega arith, refl)
  counted (suc n) l e =
      let p = none_both (first_wrong (fits xs) n) (cond (fits xs n) None (Some n)) e in
      rw (add-one n) at (turn xs n _ _ _ _ (word_of xs n) (counted n (omega arith) p.0) (none_cond (fits xs n) n p.1) refl refl refl)

  parted : (i j : ℕ) → i < j → j < words_in xs → is_member (word_of xs i) ≡ true → is_member (word_of xs j) ≡ true
      → (number_of (word_of xs i) ≡ number_of (word_of xs j) → ⊥) × (tail_of (word_of xs i) ≡ tail_of (word_of xs j) → ⊥)
  parted i j l h a b =
      let w = word_of xs i in
      let v = word_of xs j in
      let s = sits_at j h in
      let f : stands xs j (in_seat (number_of v) (tail_of v)) ≡ false = not-true _ (and_parts _ _ (rw b at s)).1 in
      let g : in_seat (number_of v) (tail_of v) w ≡ false = none_at (λ k. in_seat (number_of v) (tail_of v) (word_of xs k)) j i f l in
      let o = or_parts (eqb (number_of w) (number_of v)) (eqb (tail_of w) (tail_of v)) (rw a at g) in
      (eqb-false _ _ o.0, eqb-false _ _ o.1)

  owner : (j : ℕ) → j < words_in xs → is_rule (word_of xs j) ≡ true
      → (i : ℕ) × (i < j) × (is_member (word_of xs i) ≡ true) × (number_of (word_of xs i) ≡ number_of (word_of xs j))
  owner j h a =
      let v = word_of xs j in
      let m : is_member v ≡ false = rule_no_member v a in
      let s = and_parts (is_rule v) _ (rw m at (sits_at j h)) in
      let r = some_at (λ k. numbered (number_of v) (word_of xs k)) j (and_parts _ _ s.1).1 in
      let p = and_parts (is_member (word_of xs r.0)) _ r.2 in
      (r.0, r.1, p.0, eqb-true _ _ p.1)

pub sound_none : (xs : List ℕ) → book_sound xs ≡ true → wrong_word xs ≡ None
sound_none xs e = none_of (wrong_word xs) e

-- a book has at most 215 words
pub sound_small : (xs : List ℕ) → book_sound xs ≡ true → length xs ≤ 860
sound_small xs e =
    let n = none_both (first_wrong (fits xs) (words_in xs)) _ (none_of _ e) in
    let right : (k : ℕ) → k < words_in xs → fits xs k ≡ true = λ k h. all_right (fits xs) (words_in xs) k n.0 h in
    let t = counted xs right (words_in xs) (omega arith) n.0 in
    let w : length xs % 4 ≡ 0 = eqb-true _ _ (none_cond (eqb (length xs % 4) 0) (words_in xs) n.1) in
    let c : words_in xs ≤ 215 = omega (arith, t.3, t.4, t.5) in
    omega arith

pub sound_is_book : SoundIsBook
sound_is_book xs e =
    let n = none_both (first_wrong (fits xs) (words_in xs)) _ (none_of _ e) in
    let right : (k : ℕ) → k < words_in xs → fits xs k ≡ true = λ k h. all_right (fits xs) (words_in xs) k n.0 h in
    let t = counted xs right (words_in xs) (omega arith) n.0 in
    record {
      whole = eqb-true _ _ (none_cond (eqb (length xs % 4) 0) (words_in xs) n.1);
      each = λ k h. ⊎_elim (λ o. inl o.0) (λ o. inr o.1) (one_more xs k (right k h));
      ascending = rises xs right;
      seats = parted xs right;
      owned = owner xs right;
      members = t.3;
      rules = t.4;
    }
