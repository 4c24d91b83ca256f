-- What a queue holds. Assumes nothing.
--     frames q            its frames, oldest first
use Rattle.std.specs.Prelude.{ℕ, List, vec_items}
use Rattle.lines.specs.Cuts.{cut}
use Rattle.lines.specs.declared.queue.Queue.{Queue}

abbrev pub frames : Queue → List (List ℕ)
frames q = cut (vec_items q.lengths) (vec_items q.octets)
