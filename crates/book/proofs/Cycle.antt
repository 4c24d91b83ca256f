-- Going round the numbers: how many members hold a number that is still to come. Assumes nothing.
use Rattle.std.proofs.Common.{◌≡◌, ℕ, ◌+◌, ◌-◌, ◌%◌, ◌<◌, ◌≤◌, true, cond, ltb, leb, List, [], ◌∷◌, length, sym, ⊎_elim, arith}
use Rattle.std.proofs.lemmas.Bool.{or_cases}
use Rattle.table.specs.Ordered.{same}
use Rattle.words.specs.declared.member.Member.{Member}
use Rattle.book.specs.Sound.{holds}
use Rattle.book.specs.Numbers.{after}
use Rattle.book.proofs.Keeping.{same_is}

-- the place of a number in the order that begins after last
abbrev pub place : ℕ → ℕ → ℕ
place last n = (n + 254 + 255 - last) % 255

-- how many members hold a number from the k-th place on
abbrev pub ahead : ℕ → ℕ → List Member → ℕ
ahead last k [] = 0
ahead last k (m ∷ ms) = cond (leb k (place last m.number)) 1 0 + ahead last k ms

pub ahead-length : (last k : ℕ) (ms : List Member) → ahead last k ms ≤ length ms
ahead-length last k [] = omega arith
ahead-length last k (m ∷ ms) = let h = ahead-length last k ms in grind (arith, h)

ahead_less : (last k : ℕ) (ms : List Member) → ahead last (k + 1) ms ≤ ahead last k ms
ahead_less last k [] = omega arith
ahead_less last k (m ∷ ms) = let h = ahead_less last k ms in grind (arith, h)

-- the member that holds a number is behind once the number is passed
pub ahead_falls : (last k n : ℕ) (ms : List Member) → place last n ≡ k → holds n ms ≡ true → ahead last (k + 1) ms < ahead last k ms
ahead_falls last k n [] p h = let z : ◌≡◌ {A = ℕ} 0 1 = cc in absurd (omega arith)
ahead_falls last k n (m ∷ ms) p h =
    let less = ahead_less last k ms in
    ⊎_elim (λ (q : same ltb n m.number ≡ true). let e : m.number ≡ n = sym (same_is n m.number q) in grind (arith, less, e, p))
    (λ (q : holds n ms ≡ true). let f = ahead_falls last k n ms p q in grind (arith, f))
    (or_cases (same ltb n m.number) (holds n ms) h)

-- what the search keeps at the q-th place
abbrev pub Kept : List Member → ℕ → ℕ → ℕ → Type 0
Kept ms last n q = (n ≡ after last q) × (q + ahead last q ms ≤ 15) × ((j : ℕ) → j < q → holds (after last j) ms ≡ true)
