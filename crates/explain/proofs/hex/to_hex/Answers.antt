-- What is written spells what it was written from.
use Rattle.std.proofs.Common.{rules, ◌≡◌, IfOk, string_bytes}
use Rattle.std.proofs.lemmas.Result.{IfOk-weaker}
use Rattle.explain.specs.Hex.{hexed}
use Rattle.explain.proofs.Scans.{hexed_back}
use Rattle.explain.proofs.hex.to_hex.Goals as goal

pub returns : goal.returns
returns c =
    let xs = c.args.octets.now in
    let text : IfOk c.format.result (λ s. string_bytes s ≡ hexed xs) = search rules in
    record { text = text; back = IfOk-weaker c.format.result _ _ (λ s e. hexed_back (string_bytes s) xs (λ i. (c.type_inv.octets i).fits) e) text }
