-- One frame offered to ports, one after the other. Assumes nothing.
-- A set of ports is a number, its mask: the sum of 2 ^ p over its ports p.
--     mask_bits                       how many ports a mask has a place for
--     port_bit p                      the mask of the port p alone; 0 where a mask has no place for it
--     offered rule w p f              w, with the frame f last at the port p, if it fits there
--     missed rule w p f               the mask of the port p, if the frame f does not fit there
--     offered_all rule w ps f         w, after the frame f is offered to each port of ps in turn
--     missed_all rule w ps f          the mask of the ports where it did not fit when their turn came
use Rattle.std.specs.Prelude.{ℕ, ◌^◌, cond, List, [], ◌∷◌, length, bit_or, nat_lt}
use Rattle.line.specs.Lines.{Rule, Waiting, added, admits}

abbrev pub mask_bits : ℕ
mask_bits = 64

abbrev pub port_bit : ℕ → ℕ
port_bit port = cond (nat_lt port mask_bits) (2 ^ port) 0

abbrev pub offered : Rule → Waiting → ℕ → List ℕ → Waiting
offered rule w port f = cond (admits rule w port (length f)) (added w port f) w

abbrev pub missed : Rule → Waiting → ℕ → List ℕ → ℕ
missed rule w port f = cond (admits rule w port (length f)) 0 (port_bit port)

abbrev pub offered_all : Rule → Waiting → List ℕ → List ℕ → Waiting
offered_all rule w [] f = w
offered_all rule w (port ∷ ports) f = offered_all rule (offered rule w port f) ports f

abbrev pub missed_all : Rule → Waiting → List ℕ → List ℕ → ℕ
missed_all rule w [] f = 0
missed_all rule w (port ∷ ports) f = bit_or (missed rule w port f) (missed_all rule (offered rule w port f) ports f)
