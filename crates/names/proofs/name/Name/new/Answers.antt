-- Behind the octets that were put in front of zeros, the rest are 0.
use Rattle.std.proofs.Common.{◌≡◌, ℕ, ◌-◌, ◌≤◌, List, ◌++◌, length, drop, replicate, ◌∙◌, arith, length-append, length-drop}
use lib.ListN.{length-replicate}
use lib.Seq.{drop-append_seam}
use Rattle.std.proofs.lemmas.List.{drop-replicate}
use Rattle.names.proofs.name.Name.new.Goals as goal

back : (ts text : List ℕ) → ts ≡ text → drop (length text) (ts ++ drop (length text) (replicate 32 0)) ≡ replicate (32 - length text) 0
back ts text e = rw e (drop-append_seam text _ ∙ drop-replicate (length text) 32 0)

whole : (ts text : List ℕ) → ts ≡ text → length text ≤ 32 → length (ts ++ drop (length text) (replicate 32 0)) ≡ 32
whole ts text e h = rw e (simp (length-append, length-drop, length-replicate) (omega arith))

pub invariant_of-result : goal.invariant_of-result
invariant_of-result c =
    let ts = c.copy_from_slice.new.self in
    let text = c.args.text.now in
    let e = c.copy_from_slice.ensures.after in
    record { some = omega arith; fits = omega arith; long = whole ts text e (omega arith); blank = back ts text e }
