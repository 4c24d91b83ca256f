-- The octets of the frame go, and its length.
use Rattle.std.proofs.Common.{rules, ap, arith}
use Rattle.std.proofs.lemmas.List.Elements.{All-same}
use Rattle.lines.specs.Cuts.{IsLength}
use Rattle.lines.specs.Rules.{taken_up}
use Rattle.lines.specs.Pieces.{cut_removed, length_cut, removed_past, sized_removed}
use Rattle.lines.specs.RulesLemmas.{taken_removed}
use Rattle.lines.proofs.queue.Queue.remove_at.Goals as goal

pub returns-in_default : goal.returns-in_default
returns-in_default c = search (rules, length_cut, removed_past)

pub invariant_of-self-clause-sized : goal.invariant_of-self-clause-sized
invariant_of-self-clause-sized c = All-same IsLength _ _ c.remove.ensures.items (sized_removed _ _ c.args.self.now.sized)

pub invariant_of-self-clause-fitting : goal.invariant_of-self-clause-fitting
invariant_of-self-clause-fitting c = omega (arith, ap taken_up c.remove.ensures.items, taken_removed)

pub returns : goal.returns
returns c = search (rules, cut_removed)
