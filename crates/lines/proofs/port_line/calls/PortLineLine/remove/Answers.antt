-- The queue of the port loses its oldest frame; the others stay.
use Rattle.std.proofs.Common.{rules}
use Rattle.lines.specs.PortListsLemmas.{first_removed}
use Rattle.lines.proofs.port_line.calls.PortLineLine.remove.Goals as goal

pub returns-in-Some-clause-queued : goal.returns-in-Some-clause-queued
returns-in-Some-clause-queued g c = search (rules, first_removed)
