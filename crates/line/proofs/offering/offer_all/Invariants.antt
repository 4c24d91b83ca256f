-- What the ports before the turn's index come to.
use Rattle.std.proofs.Common.{◌≡◌, take}
use Rattle.line.specs.Offers.{missed_all, offered_all}
use Rattle.line.proofs.offering.offer_all.Given as goal

abbrev pub invariant-loop-port : goal.invariant-loop-port
invariant-loop-port g l =
    let m = g.L.Line in
    let rule = m.fitting l.initial.line in
    let start = m.waiting l.initial.line in
    record {
      missed : l.mask ≡ missed_all rule start (take l.port-index l.ports) l.frame;
      queued : m.waiting l.line ≡ offered_all rule start (take l.port-index l.ports) l.frame;
      same : m.fitting l.line ≡ rule;
    }
