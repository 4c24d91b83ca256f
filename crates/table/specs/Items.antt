-- A table as the list of its records, first to last. Assumes nothing.
use Rattle.std.specs.Prelude.{ℕ, List, vec_items}
use Rattle.table.specs.declared.ordered.Table.{Table}

abbrev pub items : {R : Type 0} {n : ℕ} → Table R n → List R
items t = vec_items t.records
