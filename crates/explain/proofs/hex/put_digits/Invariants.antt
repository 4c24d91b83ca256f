-- The buffer begins with the digits of the octets before the turn's index.
use Rattle.std.proofs.Common.{◌≡◌, ◌*◌, take}
use Rattle.explain.specs.Hex.{hexed}
use Rattle.explain.proofs.hex.put_digits.Given as goal

abbrev pub invariant-loop-k : goal.invariant-loop-k
invariant-loop-k l = take (2 * l.k) l.buffer ≡ hexed (take l.k l.octets)
