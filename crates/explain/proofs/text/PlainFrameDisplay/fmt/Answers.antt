-- Of a dead module nothing follows the header.
use Rattle.std.proofs.Common.{rules}
use Rattle.explain.proofs.text.PlainFrameDisplay.fmt.Goals.{in-Some+in_ok-fmt, in_default}
use Rattle.explain.proofs.text.PlainFrameDisplay.fmt.Goals as goal

pub returns-in-YouAreDead-clause-writes : goal.returns-in-YouAreDead-clause-writes
returns-in-YouAreDead-clause-writes g c = elim c.match-header.branch [ in-Some+in_ok-fmt w ↦ search rules | in_default w ↦ search rules ]
