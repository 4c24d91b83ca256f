-- One port more that a frame is offered to. Assumes nothing.
use Rattle.std.proofs.Common.{◌≡◌, ℕ, List, [], ◌∷◌, ◌++◌, sym, refl, ap, ◌∙◌}
use lib.Bits.{bit_or, or_zero_r}
use Rattle.line.specs.Lines.{Rule, Waiting}
use Rattle.line.specs.Offers.{missed, missed_all, offered, offered_all}
use Rattle.line.proofs.Masks.{or_assoc}

pub offered_more : (rule : Rule) (w : Waiting) (ps f : List ℕ) (p : ℕ) → offered_all rule w (ps ++ p ∷ []) f ≡ offered rule (offered_all rule w ps f) p f
offered_more rule w [] f p = refl
offered_more rule w (q ∷ ps) f p = offered_more rule (offered rule w q f) ps f p

pub missed_more : (rule : Rule) (w : Waiting) (ps f : List ℕ) (p : ℕ) → missed_all rule w (ps ++ p ∷ []) f ≡ bit_or (missed_all rule w ps f) (missed rule (offered_all rule w ps f) p f)
missed_more rule w [] f p = or_zero_r (missed rule w p f)
missed_more rule w (q ∷ ps) f p =
    let v : Waiting = offered rule w q f in
    ap (bit_or (missed rule w q f)) (missed_more rule v ps f p)
    ∙ sym (or_assoc (missed rule w q f) (missed_all rule v ps f) (missed rule (offered_all rule v ps f) p f))
