-- The first octet decides; what was read is what would be written.
use Rattle.std.proofs.Common.{rules}
use Rattle.wire.proofs.Both.{message_reads, meta_reads, message_written, meta_written}
use Rattle.wire.proofs.reader.read.Goals as goal

pub returns-then-begins_message-clause-reads : goal.returns-then-begins_message-clause-reads
returns-then-begins_message-clause-reads c = search (rules, message_reads)

pub returns-then-begins_message-clause-back : goal.returns-then-begins_message-clause-back
returns-then-begins_message-clause-back c = search (rules, message_written c.args.octets.now (λ i. (c.type_inv.octets i).fits))

pub returns-else-begins_message-clause-reads : goal.returns-else-begins_message-clause-reads
returns-else-begins_message-clause-reads c = search (rules, meta_reads)

pub returns-else-begins_message-clause-back : goal.returns-else-begins_message-clause-back
returns-else-begins_message-clause-back c = search (rules, meta_written c.args.octets.now (λ i. (c.type_inv.octets i).fits))
