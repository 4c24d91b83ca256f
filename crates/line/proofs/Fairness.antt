-- A lawful rule is fair at every port. Assumes nothing.
use Rattle.std.proofs.Common.{◌≡◌, ℕ, ◌<◌, ◌≤◌, true, eqb, List, map, length, sym, ap, ◌∙◌, arith}
use Rattle.std.specs.List.{remove}
use Rattle.std.proofs.lemmas.List.{drop-map, map-append, take-map}
use Rattle.std.proofs.lemmas.Bool.{cond_both, eqb-true}
use Rattle.line.specs.Lines.{Lawful, Rule, Waiting, longest_frame, without}
use Rattle.line.specs.Laws.{Fair}
use Rattle.line.proofs.Admits.{admits_is, fits_parts, is_ranged}

pub lengths_removed : (fs : List (List ℕ)) (i : ℕ) → map length (remove fs i) ≡ remove (map length fs) i
lengths_removed fs i = simp (map-append, take-map, drop-map)

-- whichever port it is gone from
still : (rule : Rule) (w : Waiting) (port at i n : ℕ) → Lawful rule → 0 < n → n ≤ longest_frame → rule (map length (w port)) n ≡ true → rule (map length (without w at i port)) n ≡ true
still rule w port at i n law b d e = cond_both (eqb port at) (remove (w at) i) (w port) (λ fs. rule (map length fs) n ≡ true)
    (λ same.
    ap (λ ns. rule ns n) (lengths_removed (w at) i)
    ∙ law.fewer (map length (w at)) i n b d (ap (λ p. rule (map length (w p)) n) (sym (eqb-true port at same)) ∙ e))
    (λ _. e)

pub fair : (rule : Rule) (w : Waiting) → Lawful rule → Fair rule w
fair rule w law = record {
  empty = λ port n a b d none.
      admits_is rule w port n (is_ranged port n a b d) ∙ ap (λ fs. rule (map length fs) n) none ∙ law.empties n b d;
  shorter = λ port m n a l e.
      let f = fits_parts rule w port n e in
      let short : m ≤ longest_frame = omega arith in
      admits_is rule w port m (is_ranged port m f.range.within a short) ∙ law.shorter (map length (w port)) m n a l f.range.short f.ruled;
  fewer = λ port at i n e.
      let f = fits_parts rule w port n e in
      let r = is_ranged port n f.range.within f.range.some f.range.short in
      admits_is rule (without w at i) port n r ∙ still rule w port at i n law f.range.some f.range.short f.ruled;
}
