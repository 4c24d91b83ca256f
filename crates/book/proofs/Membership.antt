-- A member stands exactly so where it is in the list, and where its word is in the run. Assumes nothing.
use Rattle.std.proofs.Common.{◌≡◌, ℕ, true, false, eqb, ltb, List, [], ◌∷◌, sym, refl, ◌∙◌, ⊎_elim, arith}
use Rattle.std.proofs.Math.Bool.{or-false}
use Rattle.std.proofs.lemmas.Bool.{and_left, and_parts, cases_Bool, ltb-true, ne_eqb, or_from}
use Rattle.table.specs.Ordered.{above, ascending, same}
use Rattle.words.specs.declared.member.Member.{Member}
use Rattle.words.specs.Books.{has_word, words_in}
use Rattle.words.specs.Keys.{member_key}
use Rattle.words.specs.Records.{is_member, member_in, member_word, valid_member}
use Rattle.book.specs.Asked.{same_member, stands_so}
use Rattle.book.specs.Laws.{In}
use Rattle.book.specs.Matching.{some}
use Rattle.book.specs.Octets.{members_in}
use Rattle.book.proofs.Carried.{carried_some}
use Rattle.book.proofs.Fields.{same-is_member, same_member_self, word_tells}
use Rattle.book.proofs.Keeping.{same_is, same_self}
use Rattle.book.proofs.Recipients.{in_some, some_in}

other_number : (m n : Member) → (n.number ≡ m.number → ⊥) → same_member n m ≡ false
other_number m n d = and_left _ _ (ne_eqb n.number m.number d)

-- nobody above its number is it
none_above : (m : Member) (k : ℕ) (ms : List Member) → k ≡ m.number → above ltb member_key k ms ≡ true → some (λ n. same_member n m) ms ≡ false
none_above m k [] e a = refl
none_above m k (y ∷ ms) e a =
    let p = and_parts (ltb k y.number) (above ltb member_key k ms) a in
    let l = ltb-true k y.number p.0 in
    or_from _ _ (other_number m y (λ (q : y.number ≡ m.number). omega arith)) (none_above m k ms e p.1)

-- in ascending order, to stand exactly so is to be in the list
pub stands_some : (m : Member) (ms : List Member) → ascending ltb member_key ms ≡ true → stands_so m ms ≡ some (λ n. same_member n m) ms
stands_some m [] r = refl
stands_some m (y ∷ ms) r =
    let p = and_parts (above ltb member_key y.number ms) (ascending ltb member_key ms) r in
    ⊎_elim
    (λ (q : same ltb m.number y.number ≡ true).
    let e : y.number ≡ m.number = sym (same_is m.number y.number q) in
    rw (q, none_above m y.number ms e p.0) (sym (or-false (same_member y m))))
    (λ (q : same ltb m.number y.number ≡ false).
    let d : y.number ≡ m.number → ⊥ = λ e. let t = same_self m.number y.number (sym e) in let z : ◌≡◌ {A = ℕ} 0 1 = cc in omega arith in
    rw (q, other_number m y d) (stands_some m ms p.1))
    (cases_Bool (same ltb m.number y.number))

pub stands_in : (m : Member) (ms : List Member) → ascending ltb member_key ms ≡ true → stands_so m ms ≡ true → In m ms
stands_in m ms r h =
    let i = some_in (λ n. same_member n m) ms (sym (stands_some m ms r) ∙ h) in
    rw (same-is_member i.0 m i.2) at i.1

pub in_stands : (m : Member) (ms : List Member) → ascending ltb member_key ms ≡ true → In m ms → stands_so m ms ≡ true
in_stands m ms r i = stands_some m ms r ∙ in_some (λ n. same_member n m) m ms i (same_member_self m)

-- a member's word is in a run of octets where the member is among those that its words carry
pub has_some : (xs : List ℕ) (m : Member) → valid_member m ≡ true → has_word xs (member_word m) ≡ some (λ n. same_member n m) (members_in xs)
has_some xs m v = carried_some is_member member_in (λ n. same_member n m) (λ w. eqb w (member_word m)) xs (words_in xs) (word_tells m v)
