-- Rules are ordered by their kinds, and then by the other fields.
use Rattle.std.proofs.Common.{◌≡◌, refl, rules}
use Rattle.std.specs.Cmp.Lexicographic.{slice_cmp}
use Rattle.std.specs.Ordering.{nat_cmp}
use Rattle.table.proofs.Lexical.{digits_ranked}
use Rattle.words.specs.Keys.{rule_digits}
use Rattle.words.specs.Orders.{apart}
use Rattle.words.proofs.keys.RuleKey.compare.Goals as goal

pub returns : goal.returns
returns c =
    let e : c.cmp.result ≡ slice_cmp nat_cmp (rule_digits c.args.self.now) (rule_digits c.args.other.now) = search rules in
    digits_ranked rule_digits apart c.args.self.now c.args.other.now _ _ c.cmp.result refl refl e
