-- Worked examples of the two fitting rules. Assumes nothing.
--     Example          a rule, the lengths that wait, a new length, and whether it fits
--     right e          the rule says so
--     examples         the list of them
--     Examples         each of them is right
use Rattle.std.specs.Prelude.{◌≡◌, ℕ, Bool, true, false, cond, not, List, [], ◌∷◌}
use Rattle.std.specs.List.{list_all}
use Rattle.line.specs.Lines.{Rule}
use Rattle.lines.specs.Rules.{packed, slots}

pub record Example : Type 0 where
  pub rule : Rule
  pub waiting : List ℕ
  pub new : ℕ
  pub fits : Bool

abbrev pub right : Example → Bool
right e = cond e.fits (e.rule e.waiting e.new) (not (e.rule e.waiting e.new))

abbrev pub examples : List Example
examples =
    record { rule = packed; waiting = 1012 ∷ 1012 ∷ 1012 ∷ 1012 ∷ []; new = 38; fits = true }
    ∷ record { rule = packed; waiting = 1012 ∷ 1012 ∷ 1012 ∷ 1012 ∷ []; new = 39; fits = false }
    ∷ record { rule = slots; waiting = 1012 ∷ 1012 ∷ 1012 ∷ []; new = 1012; fits = true }
    ∷ record { rule = slots; waiting = 1 ∷ 1 ∷ 1 ∷ 1 ∷ []; new = 1; fits = false }
    ∷ []

abbrev pub Examples : Type 0
Examples = list_all right examples ≡ true
