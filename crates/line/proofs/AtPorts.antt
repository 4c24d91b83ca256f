-- What a change at one port leaves there and elsewhere. Assumes nothing.
use Rattle.std.proofs.Common.{◌≡◌, ℕ, eqb, List, refl}
use Rattle.std.proofs.lemmas.Bool.{cond-false, cond-true, eq-eqb, ne_eqb}
use Rattle.line.specs.Lines.{Waiting, at_port}

pub at_same : (w : Waiting) (port : ℕ) (fs : List (List ℕ)) → at_port w port fs port ≡ fs
at_same w port fs = cond-true (eqb port port) fs (w port) (eq-eqb port port refl)

pub at_other : (w : Waiting) (port q : ℕ) (fs : List (List ℕ)) → (q ≡ port → ⊥) → at_port w port fs q ≡ w q
at_other w port q fs other = cond-false (eqb q port) fs (w q) (ne_eqb q port other)
