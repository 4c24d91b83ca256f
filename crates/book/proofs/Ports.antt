-- Members at different ports are at most as many as there are ports. Assumes nothing.
use Rattle.std.proofs.Common.{◌≡◌, ℕ, zero, suc, ◌+◌, ◌<◌, ◌≤◌, Bool, true, false, ◌||◌, eqb, List, [], ◌∷◌, length, refl, ⊎_elim, arith}
use Rattle.std.proofs.lemmas.Bool.{cases_eq, and_parts, eq-eqb, ne_eqb, not-true, or_from}
use Rattle.words.specs.Records.{valid_member}
use Rattle.words.specs.declared.member.Member.{Member}
use Rattle.words.specs.Books.{count_below}
use Rattle.words.proofs.Search.{count_at_most}
use Rattle.book.specs.Sound.{each, other_port, ports_apart}
use Rattle.book.specs.Matching.{some}
use Rattle.book.proofs.Orders.{member_ranges}

-- whether somebody stands at the port
abbrev occupied : List Member → ℕ → Bool
occupied ms k = some (λ m. eqb m.port k) ms

same_count : (f : ℕ → Bool) (q n : ℕ) → n ≤ q → count_below (λ k. eqb q k || f k) n ≡ count_below f n
same_count f q zero l = refl
same_count f q (suc n) l = rw (same_count f q n (omega arith), ne_eqb q n (λ (e : q ≡ n). omega arith))

one_count : (f : ℕ → Bool) (q n : ℕ) → f q ≡ false → q < n → count_below (λ k. eqb q k || f k) n ≡ count_below f n + 1
one_count f q zero e l = absurd (omega arith)
one_count f q (suc n) e l =
    ⊎_elim (λ (h : q ≡ n). let g : f n ≡ false = rw h at e in rw (same_count f q n (omega arith), eq-eqb q n h, g) (omega arith))
    (λ (h : q ≡ n → ⊥). rw (one_count f q n e (omega arith), ne_eqb q n h) (omega arith))
    (cases_eq q n)

free_port : (p : ℕ) (ms : List Member) → each (other_port p) ms ≡ true → occupied ms p ≡ false
free_port p [] h = refl
free_port p (m ∷ ms) h =
    let a = and_parts (other_port p m) (each (other_port p) ms) h in
    or_from _ _ (not-true _ a.0) (free_port p ms a.1)

pub port_of : (m : Member) → valid_member m ≡ true → (1 ≤ m.port) × (m.port ≤ 15)
port_of m v = let r = member_ranges m v in (r.4, r.5)

counted : (ms : List Member) → ports_apart ms ≡ true → each valid_member ms ≡ true → length ms ≡ count_below (occupied ms) 16
counted [] h v = refl
counted (m ∷ ms) h v =
    let a = and_parts (each (other_port m.port) ms) (ports_apart ms) h in
    let b = and_parts (valid_member m) (each valid_member ms) v in
    let o = one_count (occupied ms) m.port 16 (free_port m.port ms a.0) (omega (arith, (port_of m b.0).1)) in
    let r = counted ms a.1 b.1 in
    omega (arith, o, r)

nobody_at_0 : (ms : List Member) → each valid_member ms ≡ true → occupied ms 0 ≡ false
nobody_at_0 [] v = refl
nobody_at_0 (m ∷ ms) v =
    let b = and_parts (valid_member m) (each valid_member ms) v in
    let c = port_of m b.0 in
    or_from _ _ (ne_eqb m.port 0 (λ (e : m.port ≡ 0). omega (arith, c.0))) (nobody_at_0 ms b.1)

-- where a port is free, there is room for one member more
pub room : (p : ℕ) (ms : List Member) → 1 ≤ p → p ≤ 15 → ports_apart ms ≡ true → each valid_member ms ≡ true → each (other_port p) ms ≡ true → length ms < 15
room p ms l u h v f =
    let c = counted ms h v in
    let g = one_count (occupied ms) p 16 (free_port p ms f) (omega arith) in
    let z : (eqb p 0 || occupied ms 0) ≡ false = or_from _ _ (ne_eqb p 0 (λ (e : p ≡ 0). omega arith)) (nobody_at_0 ms v) in
    let k = one_count (λ j. eqb p j || occupied ms j) 0 16 z (omega arith) in
    let m = count_at_most (λ j. eqb 0 j || (eqb p j || occupied ms j)) 16 in
    omega (arith, c, g, k, m)
