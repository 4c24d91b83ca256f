-- Names stand as their octets do.
use Rattle.table.proofs.Lexical.{digits_ranked}
use Rattle.names.specs.Names.{octets}
use Rattle.names.specs.Apart.{apart}
use Rattle.names.proofs.name.octets.NameKey.compare.Goals as goal

pub returns : goal.returns
returns c = digits_ranked octets apart c.args.self.now c.args.other.now _ _ _ c.as_octets.ensures.octets c.as_octets-2.ensures.octets c.cmp.ensures
