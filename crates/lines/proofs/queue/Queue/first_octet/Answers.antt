-- The first octet of a frame lies where the frame begins.
use Rattle.std.proofs.Common.{rules, vec_items, arith}
use Rattle.lines.specs.Pieces.{first_is, length_cut}
use Rattle.lines.proofs.queue.Queue.first_octet.Goals as goal

pub returns-in_err-span : goal.returns-in_err-span
returns-in_err-span c = search (rules, length_cut)

pub returns : goal.returns
returns c =
    let q = c.args.self.now in
    let span = c.in_ok-span.ensures in
    first_is (vec_items q.lengths) (vec_items q.octets) c.args.i _ _ _ span.piece (let h = span.within in omega arith) c.index.ensures
