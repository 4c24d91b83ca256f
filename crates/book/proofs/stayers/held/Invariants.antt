-- No member before the turn's index has the number.
use Rattle.std.proofs.Common.{◌≡◌, drop}
use Rattle.book.specs.Sound.{holds}
use Rattle.book.proofs.stayers.held.Given as goal

abbrev pub invariant-loop-m : goal.invariant-loop-m
invariant-loop-m l = holds l.number l.members ≡ holds l.number (drop l.m-index l.members)
