-- The first member with the number answers the search.
use Rattle.std.proofs.Common.{◌≡◌, ℕ, ◌+◌, ◌<◌, true, false, ◌||◌, ltb, List, length, get_or, drop, sym, ◌∙◌, add-one, drop-cons}
use Rattle.std.proofs.lemmas.List.{drop_all}
use Rattle.table.specs.Ordered.{same}
use Rattle.words.specs.declared.member.Member.{Member}
use Rattle.book.specs.Sound.{holds}
use Rattle.book.proofs.Keeping.{same_self, same_other}
use Rattle.book.proofs.stayers.held.Goals as goal

abbrev nobody : Member
nobody = record { number = 0; role = 0; port = 0 }

held_at : (n : ℕ) (ms : List Member) (i : ℕ) → i < length ms → holds n (drop i ms) ≡ (same ltb n (get_or ms i nobody).number || holds n (drop (i + 1) ms))
held_at n ms i h = rw (add-one, drop-cons ms i nobody)

pub returns-then-m-number : goal.returns-then-m-number
returns-then-m-number c =
    let ms = c.args.members.now in
    let s : same ltb c.args.number (get_or ms c.loop-m.m-index nobody).number ≡ true = same_self _ _ (sym c.if-m-number.true) in
    sym (c.loop-m.invariant ∙ held_at c.args.number ms c.loop-m.m-index c.loop-m-test.true ∙ rw s)

pub loop-m-preserved : goal.loop-m-preserved
loop-m-preserved c =
    let ms = c.args.members.now in
    let s : same ltb c.args.number (get_or ms c.loop-m.m-index nobody).number ≡ false = same_other _ _ (λ e. c.if-m-number.false (sym e)) in
    c.loop-m.invariant ∙ held_at c.args.number ms c.loop-m.m-index c.loop-m-test.true ∙ rw s

pub returns : goal.returns
returns c = sym (c.loop-m.invariant ∙ rw (drop_all c.loop-m.m-index c.args.members.now c.loop-m-test.false))
