-- Records in strictly ascending order of their keys, and what entering and leaving does to them. Assumes nothing.
-- less is the order of the keys, key the key of a record.
use Rattle.std.specs.Prelude.{◌≡◌, ℕ, ◌<◌, ◌≤◌, Bool, true, false, cond, not, ◌&&◌, ◌||◌, List, [], ◌∷◌, length, Some, None, filter, Option, Result, MatchResult}
use Rattle.std.specs.List.{HoldsAt, AllWithin}

-- A strict total order: of two keys exactly one of less, equal, greater holds, and less is transitive.
pub record Order {K : Type 0} (less : K → K → Bool) : Type 0 where
  pub irreflexive : (x : K) → less x x ≡ false
  pub transitive : (x y z : K) → less x y ≡ true → less y z ≡ true → less x z ≡ true
  pub total : (x y : K) → less x y ≡ false → less y x ≡ false → x ≡ y

-- The first place whose key is not below k: there k stands, or there it belongs.
abbrev pub Found : {R K : Type 0} → (K → K → Bool) → (R → K) → List R → K → Result ℕ ℕ → Type 0
Found less key xs k r = MatchResult r
    (λ i. (i < length xs) × AllWithin (λ y. less (key y) k ≡ true) xs 0 i × HoldsAt (λ y. key y ≡ k) xs i)
    (λ i. (i ≤ length xs) × AllWithin (λ y. less (key y) k ≡ true) xs 0 i × (i < length xs → HoldsAt (λ y. less k (key y) ≡ true) xs i))

-- every key of xs lies above k
abbrev pub above : {R K : Type 0} → (K → K → Bool) → (R → K) → K → List R → Bool
above less key k [] = true
above less key k (x ∷ xs) = less k (key x) && above less key k xs

-- strictly ascending, each key below all that follow
abbrev pub ascending : {R K : Type 0} → (K → K → Bool) → (R → K) → List R → Bool
ascending less key [] = true
ascending less key (x ∷ xs) = above less key (key x) xs && ascending less key xs

-- neither key is below the other
abbrev pub same : {K : Type 0} → (K → K → Bool) → K → K → Bool
same less a b = not (less a b) && not (less b a)

-- some record has the key k
abbrev pub stands : {R K : Type 0} → (K → K → Bool) → (R → K) → K → List R → Bool
stands less key k [] = false
stands less key k (y ∷ ys) = same less k (key y) || stands less key k ys

-- the first record with the key k
abbrev pub looked_up : {R K : Type 0} → (K → K → Bool) → (R → K) → K → List R → Option R
looked_up less key k [] = None
looked_up less key k (y ∷ ys) = cond (same less k (key y)) (Some y) (looked_up less key k ys)

-- x in its place, before the first key above its own
abbrev pub entered : {R K : Type 0} → (K → K → Bool) → (R → K) → R → List R → List R
entered less key x [] = x ∷ []
entered less key x (y ∷ ys) = cond (less (key x) (key y)) (x ∷ y ∷ ys) (y ∷ entered less key x ys)

-- all but the records with the key k
abbrev pub without : {R K : Type 0} → (K → K → Bool) → (R → K) → K → List R → List R
without less key k xs = filter (λ y. not (same less k (key y))) xs
