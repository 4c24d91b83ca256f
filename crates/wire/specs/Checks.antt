-- Checks in their order, of which the first that fails gives the fault. Assumes nothing.
--     checked cs k         the fault of the first check of cs that fails, else k
--     passing cs           the fault of the first check of cs that fails, if one does
--     and_then r k         k of what r gives, or r's fault
--     up r                 a word's fault inside the frame's fault
--     record_at c w xs i   the record that the word at place i of xs carries: w of the word where c holds of it, else a fault at i
use Rattle.std.specs.Prelude.{ℕ, Bool, cond, List, [], ◌∷◌, Ok, Err, Result}
use Rattle.words.specs.declared.fault.WordFault.{WordFault}
use Rattle.words.specs.Words.{word_at}
use Rattle.words.specs.Records.{read_if}
use Rattle.wire.specs.declared.fault.FrameFault.{FrameFault}
use Rattle.wire.specs.declared.fault.FrameFault.TheVariants.{Word}

-- a check: what is to hold, and the fault where it does not
abbrev pub checked : {A : Type 0} → List (Bool × FrameFault) → Result A FrameFault → Result A FrameFault
checked [] k = k
checked (c ∷ cs) k = cond c.0 (checked cs k) (Err c.1)

-- whether all hold
abbrev pub passing : List (Bool × FrameFault) → Result (Unit {0}) FrameFault
passing cs = checked cs (Ok tt)

abbrev pub and_then : {A B : Type 0} → Result A FrameFault → (A → Result B FrameFault) → Result B FrameFault
and_then (Ok x) k = k x
and_then (Err e) k = Err e

abbrev pub up : {A : Type 0} → Result A WordFault → Result A FrameFault
up (Ok x) = Ok x
up (Err e) = Err (Word e)

abbrev pub record_at : {A : Type 0} → (ℕ → Bool) → (ℕ → A) → List ℕ → ℕ → Result A FrameFault
record_at carries within xs i = up (read_if (carries (word_at xs i)) (within (word_at xs i)) i)
