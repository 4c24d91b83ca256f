-- In a book no word is wrong. Assumes nothing.
use Rattle.std.proofs.Common.{◌≡◌, ℕ, zero, suc, ◌-◌, ◌%◌, ◌<◌, Bool, true, false, eqb, List, length, None, refl, ⊎_elim, arith}
use Rattle.std.proofs.lemmas.Bool.{cases_Bool, cases_eq, and_from, and_left, or_from, or_right, eq-eqb, ne_eqb, lt-ltb, not_from_false}
use Rattle.words.specs.Words.{number_of, tail_of}
use Rattle.words.specs.Records.{is_member, is_rule}
use Rattle.words.specs.Books.{some_below, count_below, first_wrong, words_in, word_of, fits, sits, ascends, stands, in_seat, numbered}
use Rattle.words.specs.Laws.{Book, BookIsSound}
use Rattle.words.proofs.Search.{some_found}
use Rattle.words.proofs.Sound.{rule_no_member}

none_wrong : (f : ℕ → Bool) (n : ℕ) → ((k : ℕ) → k < n → f k ≡ true) → first_wrong f n ≡ None
none_wrong f zero h = refl
none_wrong f (suc n) h = rw (none_wrong f n (λ k l. h k (omega arith)), h n (omega arith))

none_below : (f : ℕ → Bool) (n : ℕ) → ((k : ℕ) → k < n → f k ≡ false) → some_below f n ≡ false
none_below f zero h = refl
none_below f (suc n) h = or_from _ _ (none_below f n (λ k l. h k (omega arith))) (h n (omega arith))

-- a count does not fall, and rises where the test holds
pub counts_up : (f : ℕ → Bool) (k n : ℕ) → k < n → f k ≡ true → count_below f k < count_below f n
counts_up f k zero l e = absurd (omega arith)
counts_up f k (suc n) l e =
    ⊎_elim (λ (q : k ≡ n). rw (← q, e) (omega arith))
    (λ (q : k ≡ n → ⊥). let r = counts_up f k n (omega arith) e in omega arith)
    (cases_eq k n)

module _ (xs : List ℕ) (b : Book xs) where
  rising : (k : ℕ) → k < words_in xs → ascends xs k ≡ true
  rising zero h = refl
  rising (suc j) h =
      let e : suc j - 1 ≡ j = omega arith in
      or_right (eqb (suc j) 0) _ (rw e (lt-ltb (word_of xs j) (word_of xs (suc j)) (b.ascending j (suc j) (omega arith) h)))

  seat_free : (k : ℕ) → k < words_in xs → is_member (word_of xs k) ≡ true → stands xs k (in_seat (number_of (word_of xs k)) (tail_of (word_of xs k))) ≡ false
  seat_free k h m =
      none_below (λ j. in_seat (number_of (word_of xs k)) (tail_of (word_of xs k)) (word_of xs j)) k (λ i l.
      ⊎_elim (λ (q : is_member (word_of xs i) ≡ true). let s = b.seats i k l h q m in rw q (or_from _ _ (ne_eqb _ _ s.0) (ne_eqb _ _ s.1)))
      (λ (q : is_member (word_of xs i) ≡ false). and_left _ _ q)
      (cases_Bool (is_member (word_of xs i))))

  member_sits : (k : ℕ) → k < words_in xs → is_member (word_of xs k) ≡ true → sits xs k (word_of xs k) ≡ true
  member_sits k h m =
      let c = counts_up (λ j. is_member (word_of xs j)) k (words_in xs) h m in
      rw m (and_from _ _ (lt-ltb _ 15 (omega (arith, c, b.members))) (not_from_false _ (seat_free k h m)))

  rule_sits : (k : ℕ) → k < words_in xs → is_rule (word_of xs k) ≡ true → sits xs k (word_of xs k) ≡ true
  rule_sits k h r =
      let c = counts_up (λ j. is_rule (word_of xs j)) k (words_in xs) h r in
      let o = b.owned k h r in
      let f = some_found (λ j. numbered (number_of (word_of xs k)) (word_of xs j)) k o.0 o.1 (and_from _ _ o.2 (eq-eqb _ _ o.3)) in
      rw (rule_no_member (word_of xs k) r, r) (and_from _ _ (lt-ltb _ 200 (omega (arith, c, b.rules))) f)

  all_fit : (k : ℕ) → k < words_in xs → fits xs k ≡ true
  all_fit k h = and_from _ _ (rising k h) (⊎_elim (member_sits k h) (rule_sits k h) (b.each k h))

pub book_is_sound : BookIsSound
book_is_sound xs b = rw (none_wrong (fits xs) (words_in xs) (all_fit xs b), eq-eqb (length xs % 4) 0 b.whole)
