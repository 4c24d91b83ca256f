-- A name as its octets, shorter first where one begins the other. Assumes nothing.
use Rattle.std.specs.Prelude.{ℕ, Bool, List, take}
use Rattle.table.specs.Digits.{lex}
use Rattle.names.specs.declared.name.Name.{Name}
use Rattle.names.specs.declared.named.Named.{Named}

abbrev pub octets : Name → List ℕ
octets n = take n.len n.bytes

abbrev pub name_less : Name → Name → Bool
name_less x y = lex (octets x) (octets y)

abbrev pub name_of : Named → Name
name_of e = e.name
