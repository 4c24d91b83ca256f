-- The lengths up to a frame's end are within the octets.
use Rattle.std.proofs.Common.{◌≡◌, ◌+◌, ◌≤◌, ◌<◌, rules, take, slice_index, vec_items, vec_len, arith}
use Rattle.std.specs.List.{sum}
use Rattle.std.proofs.iter.runs.Made.{chains}
use Rattle.std.proofs.lemmas.List.Sums.{sum_by-take-le}
use Rattle.lines.proofs.Queues.{ends_within, low}
use Rattle.lines.proofs.queue.Queue.span.Goals as goal

pub sum-start-requires-clause-fits : goal.sum-start-requires-clause-fits
sum-start-requires-clause-fits c =
    let q = c.args.self.now in
    let few = low q in
    let within : sum (take c.args.i (vec_items q.lengths)) < 18446744073709551616 = omega (arith, sum_by-take-le (λ m. m) (vec_items q.lengths) c.args.i) in
    search (rules, chains)

ends : (c : goal.After-sum-start) → c.sum-start.result + c.from-length.result ≤ vec_len c.args.self.now.octets
ends c =
    let q = c.args.self.now in
    let at : c.sum-start.result ≡ sum (take c.args.i (vec_items q.lengths)) = search (rules, chains) in
    let long : c.from-length.result ≡ slice_index (vec_items q.lengths) c.args.i = search rules in
    let there : c.args.i < vec_len q.lengths = search rules in
    let within = ends_within q c.args.i there in
    omega arith

pub overflow_add-result : goal.overflow_add-result
overflow_add-result c = omega (arith, ends c, low c.args.self.now)

pub returns-clause-within : goal.returns-clause-within
returns-clause-within c = ends c
