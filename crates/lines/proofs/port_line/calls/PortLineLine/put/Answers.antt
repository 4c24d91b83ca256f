-- What fits has room in the queue of its port.
use Rattle.std.proofs.Common.{rules}
use Rattle.line.proofs.Admits.{fits_parts}
use Rattle.lines.specs.PortListsLemmas.{at_read, pushed, each_sized}
use Rattle.lines.proofs.port_line.calls.PortLineLine.put.Goals as goal

pub push-requires-clause-room : goal.push-requires-clause-room
push-requires-clause-room g c = search (rules, at_read, each_sized, fits_parts, g.met.F.Fitting.within)

pub returns-then-fits-clause-queued : goal.returns-then-fits-clause-queued
returns-then-fits-clause-queued g c = search (rules, pushed)
