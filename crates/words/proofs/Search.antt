-- Bounded searches and counts, as loops go through them. Assumes nothing.
use Rattle.std.proofs.Common.{◌≡◌, ℕ, zero, suc, ◌+◌, ◌<◌, ◌≤◌, Bool, true, false, cond, Some, None, ⊎_elim, ◌∙◌, add-one, arith}
use Rattle.std.proofs.lemmas.Bool.{cases_Bool, cases_eq, or_left, or_right}
use Rattle.words.specs.Books.{some_below, first_wrong, count_below, or_else}

pub first_more : (f : ℕ → Bool) (n : ℕ) → first_wrong f (n + 1) ≡ or_else (first_wrong f n) (cond (f n) None (Some n))
first_more f n = rw add-one

pub count_more : (f : ℕ → Bool) (n : ℕ) → count_below f (n + 1) ≡ count_below f n + cond (f n) 1 0
count_more f n = rw add-one

pub some_found : (f : ℕ → Bool) (n k : ℕ) → k < n → f k ≡ true → some_below f n ≡ true
some_found f zero k h e = absurd (omega arith)
some_found f (suc n) k h e =
    ⊎_elim (λ (q : k ≡ n). or_right (some_below f n) (f n) (rw q at e))
    (λ (q : k ≡ n → ⊥). or_left (some_below f n) (f n) (some_found f n k (omega arith) e))
    (cases_eq k n)

pub first_found : (f : ℕ → Bool) (n k : ℕ) → k < n → first_wrong f k ≡ None → f k ≡ false → first_wrong f n ≡ Some k
first_found f zero k h a e = absurd (omega arith)
first_found f (suc n) k h a e =
    ⊎_elim (λ (q : k ≡ n). rw (← q, a, e))
    (λ (q : k ≡ n → ⊥). rw (first_found f n k (omega arith) a e))
    (cases_eq k n)

pub count_at_most : (f : ℕ → Bool) (n : ℕ) → count_below f n ≤ n
count_at_most f zero = omega arith
count_at_most f (suc n) = let h = count_at_most f n in ⊎_elim (λ (q : f n ≡ true). rw q (omega (arith, h))) (λ (q : f n ≡ false). rw q (omega (arith, h))) (cases_Bool (f n))

pub none_more : (f : ℕ → Bool) (n : ℕ) → first_wrong f n ≡ None → f n ≡ true → first_wrong f (n + 1) ≡ None
none_more f n a e = first_more f n ∙ rw (a, e)
