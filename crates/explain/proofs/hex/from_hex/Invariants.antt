-- The scan of the characters before the turn's index.
use Rattle.std.proofs.Common.{◌≡◌, [], take, None, fold}
use Rattle.explain.specs.Hex.{scanned, step}
use Rattle.explain.proofs.hex.from_hex.Given as goal

abbrev pub invariant-loop-c : goal.invariant-loop-c
invariant-loop-c l = fold step (scanned [] None) (take l.c-index l.line) ≡ l.scanner
