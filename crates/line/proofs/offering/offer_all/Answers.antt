-- Each port has its turn, by the rule of the line as it was.
use Rattle.std.proofs.Common.{◌<◌, length, get_or, take, arith}
use Rattle.std.proofs.lemmas.List.{take_more}
use Rattle.line.proofs.Offers.{missed_more, offered_more}
use Rattle.line.proofs.offering.offer_all.Goals as goal

pub loop-port-preserved : goal.loop-port-preserved
loop-port-preserved g c =
    let ports = c.args.ports.now in
    let i = c.loop-port.port-index in
    let within : i < length ports = omega arith in
    let more = take_more ports i 0 within in
    let m = missed_more (g.L.Line.fitting c.args.line.now) (g.L.Line.waiting c.args.line.now) (take i ports) c.args.frame.now (get_or ports i 0) in
    let q = offered_more (g.L.Line.fitting c.args.line.now) (g.L.Line.waiting c.args.line.now) (take i ports) c.args.frame.now (get_or ports i 0) in
    record { missed = cc; queued = cc; same = cc }
