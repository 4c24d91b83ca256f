-- Each turn writes the digits of one piece, and in the end none is left.
use Rattle.std.proofs.Common.{◌≡◌, [], ◌++◌, ap, sym, ◌∙◌, rules}
use Rattle.std.proofs.Output.{has_written_of_eq}
use Rattle.std.proofs.lemmas.Grind.{flat_map-append, put_two}
use Rattle.std.proofs.lemmas.List.{append_assoc, append-nil, nil_from_length}
use Rattle.explain.specs.Hex.{hexed, octet_hex}
use Rattle.explain.proofs.hex.InHexDisplay.fmt.Goals as goal

pub loop-piece-init : goal.loop-piece-init
loop-piece-init g c = (search rules, λ p. ([], search rules, search rules))

pub loop-piece-preserved : goal.loop-piece-preserved
loop-piece-preserved g c =
    let i = c.loop-piece.invariant in
    let ys = c.in-Some.piece.now in (
      search rules,
      λ p.
          let w = i.1 p in (
            w.0 ++ ys,
            put_two _ _ _ _ (hexed w.0) (hexed ys) _ w.1 (search rules) (sym (flat_map-append octet_hex w.0 ys)),
            append_assoc w.0 ys _ ∙ (search rules),
          ),
    )

pub returns-clause-writes : goal.returns-clause-writes
returns-clause-writes g c = λ p t.
    let w = c.loop-piece.invariant.1 p in
    let none : c.loop-piece.piece-iterator.rest.now ≡ [] = nil_from_length _ (search rules) in
    let all : w.0 ≡ c.args.self.now.0.now = sym (append-nil w.0) ∙ (ap (λ zs. w.0 ++ zs) (sym none) ∙ w.2) in
    has_written_of_eq _ _ _ _ _ (ap hexed all) w.1
