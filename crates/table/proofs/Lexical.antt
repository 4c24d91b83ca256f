-- The order of lists of numbers is a strict total order, and a key that is told by its list takes it over.
use Rattle.std.proofs.Common.{◌≡◌, ℕ, ◌<◌, ◌≤◌, true, false, ◌&&◌, eqb, ltb, ◌⊎◌, List, [], ◌∷◌, Ordering, Less, Equal, Greater, sym, refl, ◌∙◌, inl, inr, ⊎_elim, arith}
use Rattle.std.specs.Cmp.{ranks}
use Rattle.std.specs.Cmp.Lexicographic.{slice_cmp}
use Rattle.std.specs.Ordering.{MatchOrdering, nat_cmp, ordering_then}
use Rattle.std.proofs.lemmas.Bool.{true≢false, false≢true, both_ways, ltb-true, ltb-false, eqb-true, lt-ltb, le-ltb, eq-eqb, or_cases, or_parts, or_left, or_right, and_parts, and_from, and_cases}
use Rattle.table.specs.Ordered.{Order}
use Rattle.table.specs.Digits.{lex}

lex_cases : (x y : ℕ) (xs ys : List ℕ) → lex (x ∷ xs) (y ∷ ys) ≡ true → (x < y) ⊎ ((x ≡ y) × (lex xs ys ≡ true))
lex_cases x y xs ys h =
    ⊎_elim (λ p. inl (ltb-true x y p)) (λ q. let r = and_parts (eqb x y) (lex xs ys) q in inr (eqb-true x y r.0, r.1)) (or_cases (ltb x y) (eqb x y && lex xs ys) h)

lex_first : (x y : ℕ) (xs ys : List ℕ) → x < y → lex (x ∷ xs) (y ∷ ys) ≡ true
lex_first x y xs ys h = or_left _ _ (lt-ltb x y h)

lex_next : (x y : ℕ) (xs ys : List ℕ) → x ≡ y → lex xs ys ≡ true → lex (x ∷ xs) (y ∷ ys) ≡ true
lex_next x y xs ys e h = or_right _ _ (and_from _ _ (eq-eqb x y e) h)

lex_irreflexive : (xs : List ℕ) → lex xs xs ≡ false
lex_irreflexive [] = refl
lex_irreflexive (x ∷ xs) =
    let a = le-ltb x x (omega arith) in
    let b = eq-eqb x x refl in
    let c = lex_irreflexive xs in
    rw (a, b, c)

lex_transitive : (xs ys zs : List ℕ) → lex xs ys ≡ true → lex ys zs ≡ true → lex xs zs ≡ true
lex_transitive [] [] zs h k = absurd (false≢true h)
lex_transitive [] (y ∷ ys) [] h k = absurd (false≢true k)
lex_transitive [] (y ∷ ys) (z ∷ zs) h k = refl
lex_transitive (x ∷ xs) [] zs h k = absurd (false≢true h)
lex_transitive (x ∷ xs) (y ∷ ys) [] h k = absurd (false≢true k)
lex_transitive (x ∷ xs) (y ∷ ys) (z ∷ zs) h k =
    ⊎_elim
    (λ a. ⊎_elim (λ b. lex_first x z xs zs (omega arith)) (λ b. let e = b.0 in lex_first x z xs zs (omega arith)) (lex_cases y z ys zs k))
    (λ a. let d = a.0 in ⊎_elim (λ b. lex_first x z xs zs (omega arith)) (λ b. lex_next x z xs zs (a.0 ∙ b.0) (lex_transitive xs ys zs a.1 b.1)) (lex_cases y z ys zs k))
    (lex_cases x y xs ys h)

lex_total : (xs ys : List ℕ) → lex xs ys ≡ false → lex ys xs ≡ false → xs ≡ ys
lex_total [] [] h k = refl
lex_total [] (y ∷ ys) h k = absurd (true≢false h)
lex_total (x ∷ xs) [] h k = absurd (true≢false k)
lex_total (x ∷ xs) (y ∷ ys) h k =
    let p = or_parts (ltb x y) (eqb x y && lex xs ys) h in
    let q = or_parts (ltb y x) (eqb y x && lex ys xs) k in
    let a : y ≤ x = ltb-false x y p.0 in
    let b : x ≤ y = ltb-false y x q.0 in
    let e : x ≡ y = omega arith in
    let u : lex xs ys ≡ false = ⊎_elim (λ f. absurd (both_ways _ f (eq-eqb x y e))) (λ f. f) (and_cases (eqb x y) (lex xs ys) p.1) in
    let v : lex ys xs ≡ false = ⊎_elim (λ f. absurd (both_ways _ f (eq-eqb y x (sym e)))) (λ f. f) (and_cases (eqb y x) (lex ys xs) q.1) in
    let r = lex_total xs ys u v in
    cc

pub lex_order : Order lex
lex_order = record { irreflexive = lex_irreflexive; transitive = lex_transitive; total = lex_total }

-- The order law of any key that its list of numbers tells apart.
pub by_digits : {K : Type 0} (digits : K → List ℕ) → ((x y : K) → digits x ≡ digits y → x ≡ y) → Order (λ (x y : K). lex (digits x) (digits y))
by_digits digits apart = record {
  irreflexive = λ x. lex_irreflexive (digits x);
  transitive = λ x y z h k. lex_transitive (digits x) (digits y) (digits z) h k;
  total = λ x y h k. apart x y (lex_total (digits x) (digits y) h k);
}

deeper : (x y : ℕ) (xs ys : List ℕ) (o : Ordering) → x ≡ y → MatchOrdering o (lex xs ys ≡ true) (xs ≡ ys) (lex ys xs ≡ true) → MatchOrdering o (lex (x ∷ xs) (y ∷ ys) ≡ true) (x ∷ xs ≡ y ∷ ys) (lex (y ∷ ys) (x ∷ xs) ≡ true)
deeper x y xs ys Less e h = lex_next x y xs ys e h
deeper x y xs ys Equal e h = cc
deeper x y xs ys Greater e h = lex_next y x ys xs (sym e) h

ranked_by : (x y : ℕ) (xs ys : List ℕ) (k o : Ordering) → MatchOrdering k (x < y) (x ≡ y) (y < x) → MatchOrdering o (lex xs ys ≡ true) (xs ≡ ys) (lex ys xs ≡ true) → MatchOrdering (ordering_then k o) (lex (x ∷ xs) (y ∷ ys) ≡ true) (x ∷ xs ≡ y ∷ ys) (lex (y ∷ ys) (x ∷ xs) ≡ true)
ranked_by x y xs ys Less o p h = lex_first x y xs ys p
ranked_by x y xs ys Equal o p h = deeper x y xs ys o p h
ranked_by x y xs ys Greater o p h = lex_first y x ys xs p

-- What `cmp` answers on two slices or arrays of unsigned numbers.
pub lex_ranked : (xs ys : List ℕ) → MatchOrdering (slice_cmp nat_cmp xs ys) (lex xs ys ≡ true) (xs ≡ ys) (lex ys xs ≡ true)
lex_ranked [] [] = refl
lex_ranked [] (y ∷ ys) = refl
lex_ranked (x ∷ xs) [] = refl
lex_ranked (x ∷ xs) (y ∷ ys) = ranked_by x y xs ys (nat_cmp x y) (slice_cmp nat_cmp xs ys) (ranks x y) (lex_ranked xs ys)

whole : {K : Type 0} (digits : K → List ℕ) (apart : (x y : K) → digits x ≡ digits y → x ≡ y) (x y : K) (o : Ordering) → MatchOrdering o (lex (digits x) (digits y) ≡ true) (digits x ≡ digits y) (lex (digits y) (digits x) ≡ true) → MatchOrdering o (lex (digits x) (digits y) ≡ true) (x ≡ y) (lex (digits y) (digits x) ≡ true)
whole digits apart x y Less h = h
whole digits apart x y Equal h = apart x y h
whole digits apart x y Greater h = h

-- What `compare` owes, from what `cmp` answers on the digits xs and ys that the code holds.
pub digits_ranked : {K : Type 0} (digits : K → List ℕ) (apart : (x y : K) → digits x ≡ digits y → x ≡ y) (x y : K) (xs ys : List ℕ) (o : Ordering) → xs ≡ digits x → ys ≡ digits y → o ≡ slice_cmp nat_cmp xs ys → MatchOrdering o (lex (digits x) (digits y) ≡ true) (x ≡ y) (lex (digits y) (digits x) ≡ true)
digits_ranked digits apart x y xs ys o p q h =
    whole digits apart x y o (rw (h, p, q) (lex_ranked (digits x) (digits y)))
