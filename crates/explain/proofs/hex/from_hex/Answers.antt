-- Where a character breaks the scan, the line is no hex.
use Rattle.std.proofs.Common.{rules}
use Rattle.explain.proofs.Scans.{scan_stops}
use Rattle.explain.proofs.hex.from_hex.Goals as goal

pub returns-then-not-branch : goal.returns-then-not-branch
returns-then-not-branch c = search (rules, scan_stops)
