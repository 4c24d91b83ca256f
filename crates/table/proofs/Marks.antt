-- A closure that answers by marks, one after the other.
use Rattle.std.proofs.Common.{◌≡◌, Bool, true, false, List, [], ◌∷◌, length, refl, ap, ◌∙◌, subst, arith}
use Rattle.std.specs.List.{items_where_true}
use Rattle.std.specs.List.Retain.{IsFiltered, ReturnsInTurn}

-- the first mark; none is false
abbrev pub first : List Bool → Bool
first [] = false
first (m ∷ ms) = m

abbrev pub others : List Bool → List Bool
others [] = []
others (m ∷ ms) = ms

nothing : {X : Type 0} (ms : List Bool) (xs : List X) → xs ≡ [] → xs ≡ items_where_true ms xs
nothing [] xs e = e
nothing (m ∷ ms) [] e = refl
nothing (m ∷ ms) (x ∷ xs) e = absurd (cc)

module _ {X F : Type 0} (T : F → X → Bool → F → Type 0) (rest : F → List Bool) (step : (f : F) (x : X) (b : Bool) (f' : F) → T f x b f' → (b ≡ first (rest f)) × (rest f' ≡ others (rest f))) where
  one : (b : Bool) (bs ms : List Bool) (x : X) (xs : List X) → b ≡ first ms → items_where_true bs xs ≡ items_where_true (others ms) xs → items_where_true (b ∷ bs) (x ∷ xs) ≡ items_where_true ms (x ∷ xs)
  one true bs [] x xs e h = absurd (cc)
  one false bs [] x xs e h = h
  one true bs (true ∷ ms) x xs e h = ap (λ ys. x ∷ ys) h
  one true bs (false ∷ ms) x xs e h = absurd (cc)
  one false bs (true ∷ ms) x xs e h = absurd (cc)
  one false bs (false ∷ ms) x xs e h = h

  in_turn : (f q : F) (bs : List Bool) (xs : List X) → length bs ≡ length xs → ReturnsInTurn T f bs xs q → items_where_true bs xs ≡ items_where_true (rest f) xs
  in_turn f q [] [] l r = nothing (rest f) [] refl
  in_turn f q [] (x ∷ xs) l r = absurd (omega arith)
  in_turn f q (b ∷ bs) [] l r = absurd r
  in_turn f q (b ∷ bs) (x ∷ xs) l r =
      let s = step f x b r.0 r.1 in
      one b bs (rest f) x xs s.0 (subst (λ ms. items_where_true bs xs ≡ items_where_true ms xs) s.1 (in_turn r.0 q bs xs (omega arith) r.2))

  pub marked : (f : F) (xs ys : List X) → IsFiltered T f xs ys → ys ≡ items_where_true (rest f) xs
  marked f xs ys k = k.4 ∙ in_turn f k.1 k.0 xs k.2 k.3
