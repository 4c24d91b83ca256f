-- The closure answers by the marks that are left.
use Rattle.std.proofs.Common.{ap, ◌∙◌, rules}
use Rattle.std.specs.List.{items_where_true}
use Rattle.table.specs.Items.{items}
use Rattle.table.proofs.Marks.{marked, first, others}
use Rattle.table.proofs.ordered.Table.retain_marked.Goals as goal

pub returns : goal.returns
returns g c =
    marked _ (λ f. f.0.now.rest.now) (λ f x b f' t. search (rules, first, others)) _ _ _ c.retain.ensures.filtered
    ∙ ap (λ ms. items_where_true ms (items c.args.self.now)) c.iter-marks.ensures.rest
