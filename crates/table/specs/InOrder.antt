-- A table that ascends as the list of its records, first to last. Assumes nothing.
use Rattle.std.specs.Prelude.{ℕ, List}
use Rattle.table.specs.Items.{items}
use Rattle.table.specs.declared.sorted.Sorted.{Sorted}

abbrev pub in_order : {R K : Type 0} {n : ℕ} {keyed : _} {order : _} → Sorted R n K keyed order → List R
in_order s = items s.table
