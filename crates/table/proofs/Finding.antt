-- What the place at which a search ended says of the records xs.
use Rattle.std.proofs.Common.{◌≡◌, ℕ, Bool, true, false, not, List, get_or, is_ok, Some, None, Ok, Err, Result, sym}
use Rattle.std.specs.List.{insert, remove}
use Rattle.table.specs.Ordered.{Order, Found, ascending, entered, looked_up, same, stands, without}
use Rattle.table.proofs.Places.{absent, ascending_kept, ascending-entered, entered_at, looked_at, looked_nowhere, present, without_absent, without_at}

module _ {R K : Type 0} {less : K → K → Bool} (o : Order less) (key : R → K) (xs : List R) where
  pub there : (k : K) (i : ℕ) → Found less key xs k (Ok i) → stands less key k xs ≡ true
  there k i f = present o key k xs i f.0 f.2

  pub got : (k : K) (i : ℕ) (x : R) → Found less key xs k (Ok i) → x ≡ get_or xs i x → Some x ≡ looked_up less key k xs
  got k i x f e = looked_at o key k xs i x f.0 f.1 f.2 e

  pub put : (x : R) (i : ℕ) → Found less key xs (key x) (Err i) → insert xs i x ≡ entered less key x xs
  put x i f = entered_at o key x xs i f.0 f.1 f.2

  -- and where they ascend
  module _ (up : ascending less key xs ≡ true) where
    pub not_there : (k : K) (i : ℕ) → Found less key xs k (Err i) → stands less key k xs ≡ false
    not_there k i f = absent o key k xs i up f.0 f.1 f.2

    pub decided : (k : K) (r : Result ℕ ℕ) → Found less key xs k r → is_ok r ≡ stands less key k xs
    decided k (Ok i) f = sym (there k i f)
    decided k (Err i) f = sym (not_there k i f)

    pub got_none : (k : K) (i : ℕ) → Found less key xs k (Err i) → None ≡ looked_up less key k xs
    got_none k i f = looked_nowhere o key k xs (not_there k i f)

    pub taken : (k : K) (i : ℕ) → Found less key xs k (Ok i) → remove xs i ≡ without less key k xs
    taken k i f = without_at o key k xs i up f.0 f.2 f.1

    pub taken_rises : (k : K) (i : ℕ) → Found less key xs k (Ok i) → ascending less key (remove xs i) ≡ true
    taken_rises k i f = rw (taken k i f) (ascending_kept o key (λ y. not (same less k (key y))) xs up)

    pub nothing : (k : K) (i : ℕ) → Found less key xs k (Err i) → xs ≡ without less key k xs
    nothing k i f = sym (without_absent o key k xs (not_there k i f))

    pub put_rises : (x : R) (i : ℕ) → Found less key xs (key x) (Err i) → ascending less key (insert xs i x) ≡ true
    put_rises x i f = rw (put x i f) (ascending-entered o key x xs up (not_there (key x) i f))
