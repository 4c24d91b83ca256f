-- The queue of the port loses that frame; the others stay.
use Rattle.std.proofs.Common.{rules}
use Rattle.lines.specs.PortListsLemmas.{removed}
use Rattle.lines.proofs.port_line.calls.PortLineFaultyLine.lose.Goals as goal

pub returns-clause-queued : goal.returns-clause-queued
returns-clause-queued g c = search (rules, removed)
