-- The rule of a line is lawful, so it is fair.
use Rattle.line.proofs.Fairness.{fair}
use Rattle.line.proofs.laws.fitting_laws.Goals as goal

pub returns : goal.returns
returns g c =
    let l = c.args.line.now in
    fair (g.L.Line.fitting l) (g.L.Line.waiting l) (g.met.L.Line.lawful l)
