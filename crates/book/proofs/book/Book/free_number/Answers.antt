-- One number after the other is passed over, each held by a member.
use Rattle.std.proofs.Common.{◌≡◌, ℕ, ◌+◌, ◌<◌, ◌≤◌, true, length, sym, refl, subst, arith, below_none, below_more}
use Rattle.book.specs.Lists.{members_of}
use Rattle.book.specs.Numbers.{after}
use Rattle.book.specs.Sound.{holds}
use Rattle.book.proofs.Cycle.{ahead, place, ahead-length, ahead_falls, Kept}
use Rattle.book.proofs.book.Book.free_number.Goals as goal

pub loop-number-init : goal.loop-number-init
loop-number-init c =
    let b = c.args.self.now in
    let ms = members_of b in
    let few : length ms ≤ 15 = omega (arith, b.members.table.few, b.members.table.records.ok.0) in
    let e : place c.args.last c.next-number.result ≡ 0 = omega arith in
    let k : Kept ms c.args.last c.next-number.result 0 = (c.next-number.ensures, omega (arith, ahead-length c.args.last 0 ms), below_none _) in
    let P : ℕ → Type 0 = λ q. Kept ms c.args.last c.next-number.result q in
    subst P (sym e) k

next_place : (c : goal.After-next-number-in-loop-number) → place c.args.last c.next-number-in-loop-number.result ≡ place c.args.last c.loop-number.number + 1
next_place c = let b = c.loop-number.invariant.1 in omega arith

held : (c : goal.After-next-number-in-loop-number) → holds c.loop-number.number (members_of c.args.self.now) ≡ true
held c = sym c.if-not-contains.ensures

falls : (c : goal.After-next-number-in-loop-number)
    → ahead c.args.last (place c.args.last c.loop-number.number + 1) (members_of c.args.self.now) < ahead c.args.last (place c.args.last c.loop-number.number) (members_of c.args.self.now)
falls c = ahead_falls c.args.last _ c.loop-number.number (members_of c.args.self.now) refl (held c)

pub loop-number-smaller : goal.loop-number-smaller
loop-number-smaller c =
    let ms = members_of c.args.self.now in
    let P : ℕ → Type 0 = λ q. ahead c.args.last q ms < ahead c.args.last (place c.args.last c.loop-number.number) ms in
    subst P (sym (next_place c)) (falls c)

pub loop-number-preserved : goal.loop-number-preserved
loop-number-preserved c =
    let ms = members_of c.args.self.now in
    let q = place c.args.last c.loop-number.number in
    let b = c.loop-number.invariant.1 in
    let f = falls c in
    let H : ℕ → Type 0 = λ n. holds n ms ≡ true in
    let here : holds (after c.args.last q) ms ≡ true = subst H c.loop-number.invariant.0 (held c) in
    let is : c.next-number-in-loop-number.result ≡ after c.args.last (q + 1) = omega arith in
    let k : Kept ms c.args.last c.next-number-in-loop-number.result (q + 1) = (is, omega arith, below_more _ _ c.loop-number.invariant.2 here) in
    let P : ℕ → Type 0 = λ x. Kept ms c.args.last c.next-number-in-loop-number.result x in
    subst P (sym (next_place c)) k
