-- The fitting rules of the two lines. Assumes nothing.
--     taken_up ns        the octets that frames of those lengths take on the packed line
--     packed             a port has 4,096 octets, and a frame takes its length and 2 more
--     slots              a port has 4 places, and a frame takes one
use Rattle.std.specs.Prelude.{ℕ, ◌+◌, List, length, nat_le, nat_lt}
use Rattle.std.specs.List.{sum_by}
use Rattle.line.specs.Lines.{Rule}
use Rattle.lines.specs.Sizes.{overhead, port_octets, slot_count}

abbrev pub taken_up : List ℕ → ℕ
taken_up ns = sum_by (λ n. n + overhead) ns

abbrev pub packed : Rule
packed ns n = nat_le (taken_up ns + (n + overhead)) port_octets

abbrev pub slots : Rule
slots ns n = nat_lt (length ns) slot_count
