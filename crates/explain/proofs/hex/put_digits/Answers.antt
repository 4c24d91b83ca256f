-- Each turn puts the digits of one octet.
use Rattle.std.proofs.Common.{◌≡◌, ◌*◌, ◌+◌, arith, rules}
use Rattle.std.proofs.lemmas.List.{take_all}
use Rattle.explain.proofs.Scans.{hexed_more, two_put}
use Rattle.explain.proofs.hex.put_digits.Goals as goal

pub loop-k-preserved : goal.loop-k-preserved
loop-k-preserved c =
    let k = c.loop-k.k in
    let n : 2 * (k + 1) ≡ 2 * k + 1 + 1 = omega arith in
    let put = two_put c.loop-k.buffer (2 * k) c.digit.result c.digit-in-loop-k.result (omega arith) in
    hexed_more c.args.octets.now k _ _ c.loop-k-test.true c.loop-k.invariant (search (rules, n, put))

pub returns-clause-digits : goal.returns-clause-digits
returns-clause-digits c =
    let k = c.loop-k.k in
    search (rules, take_all)
