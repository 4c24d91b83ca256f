-- By induction over the ports.
use Rattle.line.proofs.Serving.{served}
use Rattle.line.proofs.laws.offering_laws.Goals as goal

pub returns : goal.returns
returns g c ports frame =
    let l = c.args.line.now in
    served (g.L.Line.fitting l) (g.L.Line.waiting l) ports frame
