-- Which ports the mask of frames put has. Assumes nothing.
use Rattle.std.proofs.Common.{◌≡◌, ℕ, Bool, true, false, cond, ◌&&◌, ◌||◌, eqb, ltb, List, [], ◌∷◌, ap, ◌∙◌}
use Rattle.std.proofs.lemmas.Bool.{and_parts, cond-true}
use Rattle.line.specs.Laws.{in_mask}
use Rattle.line.specs.Offers.{port_bit}
use Rattle.line.proofs.Masks.{in_none, in_power, in_union}
use Rattle.book.specs.Matching.{some}
use Rattle.book.specs.Sound.{each}
use Rattle.rules.specs.Puts.{Put, mask_of}

in_bit : (p q : ℕ) → ltb q 64 ≡ true → in_mask (port_bit q) p ≡ eqb p q
in_bit p q h = ap (λ x. in_mask x p) (cond-true (ltb q 64) _ _ h) ∙ in_power q p

-- a mask has the ports of those that pass
pub mask_at : (f : Put → Bool) (ps : List Put) (p : ℕ) → each (λ x. ltb x.port 64) ps ≡ true → in_mask (mask_of f ps) p ≡ some (λ x. f x && eqb p x.port) ps
mask_at f [] p h = in_none p
mask_at f (x ∷ ps) p h =
    let a = and_parts _ _ h in
    in_union (cond (f x) (port_bit x.port) 0) (mask_of f ps) p
    ∙ ap (λ z. in_mask (cond (f x) (port_bit x.port) 0) p || z) (mask_at f ps p a.1)
    ∙ ap (λ z. z || some (λ y. f y && eqb p y.port) ps) (go (f x) (in_bit p x.port a.0))
  where
    go : (b : Bool) → in_mask (port_bit x.port) p ≡ eqb p x.port → in_mask (cond b (port_bit x.port) 0) p ≡ (b && eqb p x.port)
    go true e = e
    go false e = in_none p
