-- As many queues as ports, each empty.
use Rattle.std.proofs.Common.{◌≡◌, rules, [], vec_items}
use Rattle.std.specs.List.{All}
use Rattle.std.proofs.iter.runs.Sources.{ranges}
use Rattle.lines.specs.Queues.{frames}
use Rattle.lines.specs.PortListsLemmas.{all_empty}
use Rattle.lines.proofs.port_line.calls.PortLineLine.empty.Goals as goal

pub invariant_of-result : goal.invariant_of-result
invariant_of-result g c = search (rules, ranges)

pub returns : goal.returns
returns g c =
    let each : All (λ q. frames q ≡ []) (vec_items c.in_ok-queues.queues) = search (rules, ranges) in
    all_empty (vec_items c.in_ok-queues.queues) each
