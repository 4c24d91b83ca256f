-- The loop over the words of a book: one turn, and what a wrong word leaves. Assumes nothing.
use Rattle.std.proofs.Common.{◌≡◌, ℕ, ◌+◌, ◌<◌, ◌≤◌, Bool, true, false, cond, eqb, ◌⊎◌, List, Some, None, ◌∙◌, inl, inr, ⊎_elim, add-one, arith}
use Rattle.std.proofs.lemmas.Bool.{cases_Bool, and_parts, and_left, or_from, eqb-true, ne_eqb, ltb-true}
use Rattle.words.specs.Words.{kind_of}
use Rattle.words.specs.Records.{is_member, is_rule}
use Rattle.words.specs.Books.{count_below, last_before, first_wrong, fits, sits, ascends, members_before, rules_before, word_of, words_in, wrong_word}
use Rattle.words.proofs.Search.{count_more, none_more}

-- no word is both
pub member_no_rule : (w : ℕ) → is_member w ≡ true → is_rule w ≡ false
member_no_rule w h =
    let k : kind_of w ≡ 1 = eqb-true (kind_of w) 1 (and_parts (eqb (kind_of w) 1) _ h).0 in
    let other : (n : ℕ) → 1 < n → eqb (kind_of w) n ≡ false = λ n l. ne_eqb (kind_of w) n (λ (e : kind_of w ≡ n). omega arith) in
    or_from _ _ (and_left _ _ (other 2 (omega arith))) (and_left _ _ (other 3 (omega arith)))

-- a word that fits is one member more or one rule more, with room for it
pub one_more : (xs : List ℕ) (k : ℕ) → fits xs k ≡ true
    → ((is_member (word_of xs k) ≡ true) × (is_rule (word_of xs k) ≡ false) × (members_before xs k < 15))
    ⊎ ((is_member (word_of xs k) ≡ false) × (is_rule (word_of xs k) ≡ true) × (rules_before xs k < 200))
one_more xs k h =
    let s : sits xs k (word_of xs k) ≡ true = (and_parts (ascends xs k) _ h).1 in
    ⊎_elim
    (λ (m : is_member (word_of xs k) ≡ true). inl (m, member_no_rule (word_of xs k) m, ltb-true _ _ (and_parts _ _ (rw m at s)).0))
    (λ (m : is_member (word_of xs k) ≡ false).
    let p = and_parts (is_rule (word_of xs k)) _ (rw m at s) in
    inr (m, p.0, ltb-true _ _ (and_parts _ _ p.1).0))
    (cases_Bool (is_member (word_of xs k)))

pub wrong_found : (xs : List ℕ) (k : ℕ) → first_wrong (fits xs) (words_in xs) ≡ Some k → Some k ≡ wrong_word xs
wrong_found xs k e = rw e

-- what holds when the words before k fit, m of them members and r rules
abbrev pub Turned : List ℕ → ℕ → ℕ → ℕ → Type 0
Turned xs k m r =
    (first_wrong (fits xs) k ≡ None) × (m ≡ members_before xs k) × (r ≡ rules_before xs k) × (m ≤ 15) × (r ≤ 200) × (m + r ≡ k)

-- with one word more, that word is the last
pub last_more : (xs : List ℕ) (k w : ℕ) → w ≡ word_of xs k → Some w ≡ last_before xs (k + 1)
last_more xs k w e = rw (add-one k, e)

-- a count of the words that pass a test, with one word more
pub counted_more : (f : ℕ → Bool) (xs : List ℕ) (k m i w : ℕ) → m ≡ count_below (λ j. f (word_of xs j)) k → w ≡ word_of xs k → i ≡ m + cond (f w) 1 0
    → i ≡ count_below (λ j. f (word_of xs j)) (k + 1)
counted_more f xs k m i w h e a = rw (count_more (λ j. f (word_of xs j)) k) (a ∙ rw (e, h))

pub one_at_most : (b : Bool) (m i k : ℕ) → i ≡ m + cond b 1 0 → m ≤ k → i ≤ k + 1
one_at_most true m i k e l = omega arith
one_at_most false m i k e l = omega arith

pub turn : (xs : List ℕ) (k m r i j w : ℕ) → Turned xs k m r → fits xs k ≡ true → w ≡ word_of xs k
    → i ≡ m + cond (is_member w) 1 0 → j ≡ r + cond (is_rule w) 1 0 → Turned xs (k + 1) i j
turn xs k m r i j w t h e a b =
    let f = none_more (fits xs) k t.0 h in
    let p : i ≡ members_before xs (k + 1) = counted_more is_member xs k m i w t.1 e a in
    let q : j ≡ rules_before xs (k + 1) = counted_more is_rule xs k r j w t.2 e b in
    ⊎_elim
    (λ o.
    let c : i ≡ m + 1 = a ∙ rw (e, o.0) in
    let d : j ≡ r + 0 = b ∙ rw (e, o.1) in
    (f, p, q, omega (arith, c, t.1, o.2), omega (arith, d, t.4), omega (arith, c, d, t.5)))
    (λ o.
    let c : i ≡ m + 0 = a ∙ rw (e, o.0) in
    let d : j ≡ r + 1 = b ∙ rw (e, o.1) in
    (f, p, q, omega (arith, c, t.3), omega (arith, d, t.2, o.2), omega (arith, c, d, t.5)))
    (one_more xs k h)
