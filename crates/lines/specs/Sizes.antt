-- How much waits at a port. Assumes nothing.
--     port_octets      octets that a port has room for
--     overhead         octets that a waiting frame takes beside its own, on the packed line
--     most_frames      frames that a port has room for: each takes 3 octets or more of the packed line
--     slot_count       frames that a port of the slot line has room for
use Rattle.std.specs.Prelude.{ℕ}

abbrev pub port_octets : ℕ
port_octets = 4096

abbrev pub overhead : ℕ
overhead = 2

abbrev pub most_frames : ℕ
most_frames = 1365

abbrev pub slot_count : ℕ
slot_count = 4
