-- Written so far: the digits of some octets, and the octets to come are the others.
use Rattle.std.proofs.Common.{◌≡◌, ℕ, List, ◌++◌}
use Rattle.std.specs.Fmt.{HasWritten, IsPlainFormatter}
use Rattle.explain.specs.Hex.{hexed}
use Rattle.explain.proofs.hex.InHexDisplay.fmt.Given as goal

abbrev pub invariant-loop-piece : goal.invariant-loop-piece
invariant-loop-piece g l =
    (l.piece-iterator.size ≡ 32)
    × (IsPlainFormatter l.initial.f
    → (xs : List ℕ) × HasWritten g.W.Write.write_str_gives l.initial.f (hexed xs) l.f × (xs ++ l.piece-iterator.rest.now ≡ l.self.0.now))
