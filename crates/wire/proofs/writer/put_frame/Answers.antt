-- The header stands before the data.
use Rattle.std.proofs.Common.{arith}
use Rattle.wire.specs.Frames.{value}
use Rattle.wire.proofs.Framed.{framed}
use Rattle.wire.proofs.writer.put_frame.Goals as goal

pub returns-in-Some-clause-octets : goal.returns-in-Some-clause-octets
returns-in-Some-clause-octets c =
    framed (value c.args.frame.now) c.in-Some.h c.args.buffer.now c.put_data-supplement.new.buffer c.header_octets.result c.put.new.buffer c.put_data-supplement.result c.put.result
    c.in-Some.ensures c.put_data-supplement.ensures.count (omega arith) c.put_data-supplement.ensures.octets c.header_octets.ensures c.put.ensures.count c.put.ensures.octets
