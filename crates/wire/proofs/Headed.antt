-- The header, both ways. Assumes nothing.
use Rattle.std.proofs.Common.{◌≡◌, ℕ, ◌+◌, ◌/◌, ◌%◌, ◌<◌, ◌≤◌, true, eqb, ltb, List, [], ◌∷◌, ◌++◌, map, length, get_or, take, drop, Some, None, Ok, Option, sym, refl, ap, arith}
use Rattle.std.specs.List.{range_with_len}
use Rattle.std.proofs.lemmas.List.FromFn.{fill_by_all}
use Rattle.std.proofs.lemmas.List.{length-drop, length-take-le, get_or-take, take-append-drop}
use Rattle.std.proofs.lemmas.Bool.{eq-eqb, eqb-true, leb-true, lt-ltb, and_parts}
use Rattle.std.proofs.lemmas.Bool.Decides.{nat_tests}
use Rattle.words.specs.Words.{word_at}
use Rattle.wire.specs.declared.meta_type.MetaType.{MetaType}
use Rattle.wire.specs.declared.meta_type.MetaType.TheVariants.{Rejection, YouAreDead, Invite, Disinvite, ModuleRegistration, YouAreIn, IAmStarting, Subscribe, Unsubscribe, IAmStopping, CellStatus}
use Rattle.wire.specs.declared.header.Header.{Header}
use Rattle.wire.specs.Checks.{passing, and_then}
use Rattle.wire.specs.Types.{type_number, type_of, numbered, all_types, length_right}
use Rattle.wire.specs.Headers.{octet, header, header_in, header_by, header_checks, first_checks, typed, read_header, header_octets, supplement, time_of}
use Rattle.wire.specs.Reads.{read, by_type}
use Rattle.wire.specs.Laws.{Octets}
use Rattle.wire.proofs.Digits.{word_back, time_back, half_back, octets_of, first_of, word_octets_of, word_below}
use Rattle.wire.proofs.Inverts.{Passed, passed, then_ok, ok_is}
use Rattle.wire.proofs.Reading.{header_some}

type_back : (k : MetaType) → type_of (type_number k) ≡ Some k
type_back Rejection = refl
type_back YouAreDead = refl
type_back Invite = refl
type_back Disinvite = refl
type_back ModuleRegistration = refl
type_back YouAreIn = refl
type_back IAmStarting = refl
type_back Subscribe = refl
type_back Unsubscribe = refl
type_back IAmStopping = refl
type_back CellStatus = refl

-- a type found among those listed has the number that was sought
number_back : (ks : List MetaType) (n : ℕ) (k : MetaType) → numbered ks n ≡ Some k → type_number k ≡ n
number_back [] n k e = cc
number_back (j ∷ ks) n k e = let i = number_back ks n k in grind (arith, nat_tests, i)

type_small : (k : MetaType) → type_number k < 32
type_small Rejection = omega arith
type_small YouAreDead = omega arith
type_small Invite = omega arith
type_small Disinvite = omega arith
type_small ModuleRegistration = omega arith
type_small YouAreIn = omega arith
type_small IAmStarting = omega arith
type_small Subscribe = omega arith
type_small Unsubscribe = omega arith
type_small IAmStopping = omega arith
type_small CellStatus = omega arith

-- a written header is read again
header_back : (k : MetaType) (r f t : ℕ) (xs : List ℕ) → length_right k (length xs) ≡ true → length xs < 65536 → f < 4294967296 → t < 1099511627776
    → Ok (header k r f t) ≡ read_header (header_octets (header k r f t) (length xs) xs)
header_back k r f t xs n l p q =
    let ys = header_octets (header k r f t) (length xs) xs in
    let s : supplement ys ≡ length xs = half_back (length xs) l in
    let m : eqb (length ys) (18 + length xs) ≡ true = eq-eqb (length ys) (18 + length xs) (omega arith) in
    let c : passing (header_checks ys k) ≡ Ok tt = rw (s, n, m) in
    header_some ys k f t (omega arith) (type_small k) (ap typed (type_back k)) c (sym (word_back f p)) (sym (time_back t q))

pub meta_back : (k : MetaType) (r f t : ℕ) (xs : List ℕ) → length_right k (length xs) ≡ true → length xs < 65536 → f < 4294967296 → t < 1099511627776
    → read (header_octets (header k r f t) (length xs) xs) ≡ by_type k (header_octets (header k r f t) (length xs) xs) (header k r f t)
unfolding read
meta_back k r f t xs n l p q =
    let ys = header_octets (header k r f t) (length xs) xs in
    let b : ltb (type_number k) 128 ≡ true = lt-ltb (type_number k) 128 (omega (arith, type_small k)) in
    rw (b, ← header_back k r f t xs n l p q)

front : (n : ℕ) (xs : List ℕ) → n ≤ length xs → map (λ i. get_or xs i 0) (range_with_len 0 n) ++ drop n xs ≡ xs
front n xs l =
    let e = fill_by_all (λ i. get_or xs i 0) (take n xs) n 0 (length-take-le n xs l) (λ k h. get_or-take n xs k 0 h) in
    rw (← e) (take-append-drop n xs)

-- what was read of a header, beside the supplementary data that follows it
pub record HeaderRead (xs : List ℕ) (h : Header) : Type 0 where
  pub octets : header_octets h (length (drop 18 xs)) (drop 18 xs) ≡ xs
  pub right : length_right h.kind (length (drop 18 xs)) ≡ true
  pub size : length xs ≡ 18 + length (drop 18 xs)
  pub role : h.role < 256
  pub reference : h.reference < 4294967296
  pub time : h.time < 1099511627776

split : (xs : List ℕ) (k : MetaType) → Octets xs → 18 ≤ length xs → type_number k ≡ octet xs 0 → Passed (header_checks xs k)
    → header_octets (header_in xs k) (supplement xs) (drop 18 xs) ≡ xs
split xs k o l e q =
    let e1 : octet xs 1 ≡ 1 = eqb-true _ _ q.0 in
    let u = and_parts (eqb (octet xs 2) 0) (eqb (octet xs 3) 0) q.1.0 in
    let e2 : octet xs 2 ≡ 0 = eqb-true _ _ u.0 in
    let e3 : octet xs 3 ≡ 0 = eqb-true _ _ u.1 in
    let e5 : octet xs 5 ≡ 0 = eqb-true _ _ q.1.1.0 in
    let e12 : octet xs 12 ≡ 29 = eqb-true _ _ q.1.1.1.0 in
    let s6 : supplement xs / 256 % 256 ≡ octet xs 6 = omega (arith, o 6, o 7) in
    let s7 : supplement xs % 256 ≡ octet xs 7 = omega (arith, o 6, o 7) in
    let t0 : time_of xs / 4294967296 % 256 ≡ octet xs 13 = first_of (octet xs 13) (word_at xs 14) (o 13) (word_below xs 14 o) in
    let t1 = octets_of (octet xs 13) (octet xs 14) (octet xs 15) (octet xs 16) (octet xs 17) (o 14) (o 15) (o 16) (o 17) (drop 18 xs) in
    let f1 = word_octets_of (octet xs 8) (octet xs 9) (octet xs 10) (octet xs 11) (o 8) (o 9) (o 10) (o 11) in
    rw (e, s6, s7, t0, t1, f1 (29 ∷ octet xs 13 ∷ octet xs 14 ∷ octet xs 15 ∷ octet xs 16 ∷ octet xs 17 ∷ drop 18 xs))
    (rw (e1, e2, e3, e5, e12) at (front 18 xs l))

typed_ok : (o : Option MetaType) (k : MetaType) → typed o ≡ Ok k → o ≡ Some k
typed_ok (Some j) k e = cc
typed_ok None k e = cc

pub header_inverse : (xs : List ℕ) (h : Header) → Octets xs → read_header xs ≡ Ok h → HeaderRead xs h
header_inverse xs h o e =
    let p = passed (first_checks xs) (and_then (typed (type_of (octet xs 0))) (header_by xs)) h e in
    let l : 18 ≤ length xs = leb-true 18 (length xs) p.0.0 in
    let t = then_ok (typed (type_of (octet xs 0))) (header_by xs) h p.1 in
    let k = t.0 in
    let n : type_number k ≡ octet xs 0 = number_back all_types (octet xs 0) k (typed_ok _ k t.1) in
    let c = then_ok (passing (header_checks xs k)) (λ _. Ok (header_in xs k)) h t.2 in
    let q = (passed (header_checks xs k) (Ok tt) c.0 c.1).0 in
    let g : header_in xs k ≡ h = ok_is (header_in xs k) h c.2 in
    let r = and_parts (length_right k (supplement xs)) _ q.1.1.1.1.0 in
    let m : length xs ≡ 18 + supplement xs = eqb-true _ _ r.1 in
    let d : supplement xs ≡ length (drop 18 xs) = rw length-drop (omega arith) in
    rw (← g) (record {
      octets = rw (← d) (split xs k o l n q);
      right = rw (← d) r.0;
      size = rw (← d) m;
      role = o 4;
      reference = word_below xs 8 o;
      time = omega (arith, o 13, word_below xs 14 o);
    })
