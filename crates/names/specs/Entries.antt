-- A catalogue as the list of its records, first to last. Assumes nothing.
use Rattle.std.specs.Prelude.{List}
use Rattle.table.specs.InOrder.{in_order}
use Rattle.names.specs.declared.named.Named.{Named}
use Rattle.names.specs.declared.catalogue.Catalogue.{Catalogue}

abbrev pub entries_of : Catalogue → List Named
entries_of c = in_order c.entries
