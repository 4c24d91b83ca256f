-- What entering a table answers, and what it leaves. Assumes nothing.
--     answer less key n x xs          what putting x in its place among xs answers, where there is room for n
--     last_answer less key n x xs     what putting x behind all of xs answers
--     after a ys xs                   what stands after the answer a: ys where the record entered, or else xs
use Rattle.std.specs.Prelude.{ℕ, Bool, cond, List, [], ◌∷◌, ◌++◌, length, Ok, Err, Result, nat_lt}
use Rattle.table.specs.Ordered.{ascending, stands}
use Rattle.table.specs.declared.insert_error.InsertError.{InsertError}
use Rattle.table.specs.declared.insert_error.InsertError.TheVariants.{Standing, Full}
use Rattle.table.specs.declared.put_last_error.PutLastError.{PutLastError}
use Rattle.table.specs.declared.put_last_error.PutLastError.TheVariants.{NotAbove, Full as LastFull}

abbrev pub answer : {R K : Type 0} → (K → K → Bool) → (R → K) → ℕ → R → List R → Result (Unit {0}) InsertError
answer less key limit x xs = cond (stands less key (key x) xs) (Err Standing) (cond (nat_lt (length xs) limit) (Ok tt) (Err Full))

abbrev pub last_answer : {R K : Type 0} → (K → K → Bool) → (R → K) → ℕ → R → List R → Result (Unit {0}) PutLastError
last_answer less key limit x xs = cond (ascending less key (xs ++ (x ∷ []))) (cond (nat_lt (length xs) limit) (Ok tt) (Err LastFull)) (Err NotAbove)

abbrev pub after : {R E : Type 0} → Result (Unit {0}) E → List R → List R → List R
after (Ok e) ys xs = ys
after (Err e) ys xs = xs
