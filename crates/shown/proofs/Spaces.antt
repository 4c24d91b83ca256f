-- States in which only the ports 0, 2 and 4 are in use, written out.
use Rattle.std.proofs.Common.{◌≡◌, ℕ, Bool, true, false, cond, eqb, List, [], sym, refl, ap, ◌∙◌}
use mathlib.Core.Path.{fun_ext}
use Rattle.std.proofs.lemmas.Bool.{eqb-true}
use Rattle.rules.specs.declared.standing.Standing.TheVariants.{Out}
use Rattle.rules.specs.Listings.{Listing, blank}
use Rattle.rules.specs.Calls.{State, End, end}
use Rattle.shown.specs.Played.{slots}

-- what waits at the ports 0, 2 and 4, the book, the last number, the ends at the ports 2 and 4
abbrev pub space : List (List ℕ) → List (List ℕ) → List (List ℕ) → Listing → ℕ → End → End → State
space a b c l n e f = record {
  fitting = slots;
  line = λ q. cond (eqb q 0) a (cond (eqb q 2) b (cond (eqb q 4) c []));
  book = l;
  last = n;
  ends = λ q. cond (eqb q 2) e (cond (eqb q 4) f (end Out blank 1));
}

-- q is k, or it is not
if_is : {A : Type 0} (f g : ℕ → A) (q k : ℕ) → f k ≡ g k → (eqb q k ≡ false → f q ≡ g q) → f q ≡ g q
if_is f g q k e d = go (eqb q k) refl
  where
    go : (b : Bool) → eqb q k ≡ b → f q ≡ g q
    go true z = ap f (eqb-true q k z) ∙ e ∙ sym (ap g (eqb-true q k z))
    go false z = d z

-- two functions that agree at 0, 2 and 4, and at every other number
pub by_ports : {A : Type 0} {f g : ℕ → A} → f 0 ≡ g 0 → f 2 ≡ g 2 → f 4 ≡ g 4
    → ((q : ℕ) → eqb q 0 ≡ false → eqb q 2 ≡ false → eqb q 4 ≡ false → f q ≡ g q) → f ≡ g
by_ports {A} {f} {g} a b c d =
    fun_ext (λ q.
    if_is f g q 0 a λ x. if_is f g q 2 b λ y. if_is f g q 4 c λ z. d q x y z)

-- two states that agree in all their parts
pub by_parts : {s t : State} → s.fitting ≡ t.fitting → s.line ≡ t.line → s.book ≡ t.book → s.last ≡ t.last
    → s.ends ≡ t.ends → s ≡ t
by_parts a b c d e = λ i. record { fitting = a i; line = b i; book = c i; last = d i; ends = e i }
