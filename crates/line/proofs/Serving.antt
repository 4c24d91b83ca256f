-- What offering to several ports comes to. Assumes nothing.
use Rattle.std.proofs.Common.{◌≡◌, ℕ, ◌<◌, Bool, true, false, cond, not, ◌&&◌, ◌||◌, eqb, List, [], ◌∷◌, ◌++◌, map, length, sym, refl, ap, ◌∙◌, ⊎_elim}
use Rattle.std.proofs.lemmas.Bool.{and_parts, and_right, cases_eq, cond_both, eq-eqb, ne_eqb, not-true, or_parts, eqb-false}
use Rattle.std.proofs.Math.Bool.{and-true, or-false}
use Rattle.line.specs.Lines.{Rule, Waiting, added, admits, in_range}
use Rattle.line.specs.Laws.{Served, in_mask, once, stands}
use Rattle.line.specs.Offers.{mask_bits, missed, missed_all, offered, offered_all, port_bit}
use Rattle.line.proofs.AtPorts.{at_other, at_same}
use Rattle.line.proofs.Masks.{in_bit, in_none, in_union}

offered_other : (rule : Rule) (w : Waiting) (p q : ℕ) (f : List ℕ) → (q ≡ p → ⊥) → offered rule w p f q ≡ w q
offered_other rule w p q f other =
    cond_both (admits rule w p (length f)) (added w p f) w (λ v. v q ≡ w q) (λ _. at_other w p q (w p ++ f ∷ []) other) (λ _. refl)

cond_at : (b : Bool) (v u : Waiting) (q : ℕ) → cond b v u q ≡ cond b (v q) (u q)
cond_at true v u q = refl
cond_at false v u q = refl

offered_same : (rule : Rule) (w : Waiting) (p : ℕ) (f : List ℕ) → offered rule w p f p ≡ cond (admits rule w p (length f)) (w p ++ f ∷ []) (w p)
offered_same rule w p f =
    cond_at (admits rule w p (length f)) (added w p f) w p
    ∙ ap (λ fs. cond (admits rule w p (length f)) fs (w p)) (at_same w p (w p ++ f ∷ []))

-- whether it fits at a port hangs on what waits there alone
admits_here : (rule : Rule) (w v : Waiting) (q n : ℕ) → v q ≡ w q → admits rule v q n ≡ admits rule w q n
admits_here rule w v q n e = ap (λ fs. in_range q n && rule (map length fs) n) e

others : (rule : Rule) (w : Waiting) (ps f : List ℕ) (q : ℕ) → stands q ps ≡ false → offered_all rule w ps f q ≡ w q
others rule w [] f q e = refl
others rule w (p ∷ ps) f q e =
    let parts = or_parts (eqb q p) (stands q ps) e in
    others rule (offered rule w p f) ps f q parts.1 ∙ offered_other rule w p q f (eqb-false q p parts.0)

queued : (rule : Rule) (w : Waiting) (ps f : List ℕ) → once ps ≡ true → (q : ℕ) → offered_all rule w ps f q ≡ cond (stands q ps && admits rule w q (length f)) (w q ++ f ∷ []) (w q)
queued rule w [] f e q = refl
queued rule w (p ∷ ps) f e q =
    let parts = and_parts (not (stands p ps)) (once ps) e in
    let v : Waiting = offered rule w p f in
    ⊎_elim
    (λ (same : q ≡ p).
    let last : stands q ps ≡ false = ap (λ x. stands x ps) same ∙ not-true (stands p ps) parts.0 in
    others rule v ps f q last
    ∙ ap v same
    ∙ offered_same rule w p f
    ∙ ap (λ x. cond (admits rule w x (length f)) (w x ++ f ∷ []) (w x)) (sym same)
    ∙ ap (λ b. cond ((b || stands q ps) && admits rule w q (length f)) (w q ++ f ∷ []) (w q)) (sym (eq-eqb q p same)))
    (λ (other : q ≡ p → ⊥).
    let here : v q ≡ w q = offered_other rule w p q f other in
    queued rule v ps f parts.1 q
    ∙ ap (λ b. cond (stands q ps && b) (v q ++ f ∷ []) (v q)) (admits_here rule w v q (length f) here)
    ∙ ap (λ fs. cond (stands q ps && admits rule w q (length f)) (fs ++ f ∷ []) fs) here
    ∙ ap (λ b. cond ((b || stands q ps) && admits rule w q (length f)) (w q ++ f ∷ []) (w q)) (sym (ne_eqb q p other)))
    (cases_eq q p)

-- the bit of a port, if it does not fit there
bit_unless : (p q : ℕ) (b : Bool) → q < mask_bits → in_mask (cond b 0 (port_bit p)) q ≡ eqb q p && not b
bit_unless p q true h = in_none q ∙ sym (and_right (eqb q p) false refl)
bit_unless p q false h = in_bit p q h ∙ sym (and-true (eqb q p))

in_missed : (rule : Rule) (w : Waiting) (p : ℕ) (f : List ℕ) (q : ℕ) → q < mask_bits → in_mask (missed rule w p f) q ≡ eqb q p && not (admits rule w p (length f))
in_missed rule w p f q h = bit_unless p q (admits rule w p (length f)) h

misses : (rule : Rule) (w : Waiting) (ps f : List ℕ) → once ps ≡ true → (q : ℕ) → q < mask_bits → in_mask (missed_all rule w ps f) q ≡ stands q ps && not (admits rule w q (length f))
misses rule w [] f e q h = in_none q
misses rule w (p ∷ ps) f e q h =
    let parts = and_parts (not (stands p ps)) (once ps) e in
    let v : Waiting = offered rule w p f in
    let n : ℕ = length f in
    in_union (missed rule w p f) (missed_all rule v ps f) q
    ∙ ap (λ b. b || in_mask (missed_all rule v ps f) q) (in_missed rule w p f q h)
    ∙ ap (λ b. (eqb q p && not (admits rule w p n)) || b) (misses rule v ps f parts.1 q h)
    ∙ ⊎_elim
    (λ (same : q ≡ p).
    let last : stands q ps ≡ false = ap (λ x. stands x ps) same ∙ not-true (stands p ps) parts.0 in
    ap (λ b. (eqb q p && not (admits rule w p n)) || (b && not (admits rule v q n))) last
    ∙ ap (λ x. (eqb q p && not (admits rule w x n)) || false) (sym same)
    ∙ ap (λ b. (b && not (admits rule w q n)) || false) (eq-eqb q p same)
    ∙ or-false (not (admits rule w q n))
    ∙ ap (λ b. (b || stands q ps) && not (admits rule w q n)) (sym (eq-eqb q p same)))
    (λ (other : q ≡ p → ⊥).
    let here = admits_here rule w v q n (offered_other rule w p q f other) in
    let apart = ne_eqb q p other in
    ap (λ b. (b && not (admits rule w p n)) || (stands q ps && not (admits rule v q n))) apart
    ∙ ap (λ b. stands q ps && not b) here
    ∙ ap (λ b. (b || stands q ps) && not (admits rule w q n)) (sym apart))
    (cases_eq q p)

pub served : (rule : Rule) (w : Waiting) (ps f : List ℕ) → Served rule w ps f
served rule w ps f = record { others = others rule w ps f; queued = queued rule w ps f; missed = misses rule w ps f }
