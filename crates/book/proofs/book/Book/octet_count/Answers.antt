-- Four octets a word.
use Rattle.std.proofs.Common.{length, ap, arith}
use Rattle.book.specs.Lists.{members_of, rules_of}
use Rattle.book.proofs.Writing.{octets_long}
use Rattle.book.proofs.book.Book.octet_count.Goals as goal

pub returns-clause-octets : goal.returns-clause-octets
returns-clause-octets c =
    let b = c.args.self.now in
    omega (arith, ap length c.members.ensures, ap length c.rules.ensures, octets_long (members_of b) (rules_of b))
