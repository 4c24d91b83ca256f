-- What the queues of the ports hold. Assumes nothing.
--     lists qs p       the frames at the port p, oldest first; none at a port past the last
use Rattle.std.specs.Prelude.{List, [], map, slice_index_or}
use Rattle.line.specs.Lines.{Waiting}
use Rattle.lines.specs.Queues.{frames}
use Rattle.lines.specs.declared.queue.Queue.{Queue}

abbrev pub lists : List Queue → Waiting
lists qs port = slice_index_or (map frames qs) port []
