-- All checks passed.
use Rattle.std.proofs.Common.{rules}
use Rattle.wire.proofs.Reading.{header_taken}
use Rattle.wire.proofs.header.codec.read_header.Goals as goal

pub returns-clause-reads : goal.returns-clause-reads
returns-clause-reads c = search (rules, header_taken)
