-- What it says that a frame fits. Assumes nothing.
use Rattle.std.proofs.Common.{◌≡◌, ℕ, ◌<◌, ◌≤◌, true, ◌&&◌, ltb, leb, map, length, ap}
use Rattle.std.proofs.lemmas.Bool.{and_from, and_parts, le-leb, leb-true, lt-ltb, ltb-true}
use Rattle.line.specs.Lines.{Rule, Waiting, admits, in_range, longest_frame, port_count}

pub record Ranged (port n : ℕ) : Type 0 where
  pub within : port < port_count
  pub some : 0 < n
  pub short : n ≤ longest_frame

pub ranged : (port n : ℕ) → in_range port n ≡ true → Ranged port n
ranged port n e =
    let p = and_parts (ltb port port_count) (ltb 0 n && leb n longest_frame) e in
    let q = and_parts (ltb 0 n) (leb n longest_frame) p.1 in
    record { within = ltb-true port port_count p.0; some = ltb-true 0 n q.0; short = leb-true n longest_frame q.1 }

pub is_ranged : (port n : ℕ) → port < port_count → 0 < n → n ≤ longest_frame → in_range port n ≡ true
is_ranged port n a b d =
    and_from (ltb port port_count) (ltb 0 n && leb n longest_frame) (lt-ltb port port_count a) (and_from (ltb 0 n) (leb n longest_frame) (lt-ltb 0 n b) (le-leb n longest_frame d))

pub record Fits (rule : Rule) (w : Waiting) (port n : ℕ) : Type 0 where
  pub range : Ranged port n
  pub ruled : rule (map length (w port)) n ≡ true

pub fits_parts : (rule : Rule) (w : Waiting) (port n : ℕ) → admits rule w port n ≡ true → Fits rule w port n
fits_parts rule w port n e =
    let p = and_parts (in_range port n) (rule (map length (w port)) n) e in
    record { range = ranged port n p.0; ruled = p.1 }

-- in range, the rule alone decides
pub admits_is : (rule : Rule) (w : Waiting) (port n : ℕ) → in_range port n ≡ true → admits rule w port n ≡ rule (map length (w port)) n
admits_is rule w port n e = ap (λ t. t && rule (map length (w port)) n) e
