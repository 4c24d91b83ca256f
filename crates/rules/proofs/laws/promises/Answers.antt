-- The three promises.
use Rattle.rules.proofs.Copies.{copies_add_up}
use Rattle.rules.proofs.Effects.{rules_stand}
use Rattle.rules.proofs.Makers.{views_agree}
use Rattle.rules.proofs.Performed.{promises}
use Rattle.rules.proofs.laws.promises.Goals as goal

pub returns : goal.returns
returns c = record { views = views_agree; rules = rules_stand; copies = copies_add_up; together = promises }
