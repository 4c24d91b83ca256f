-- Laws of the two fitting rules. Assumes nothing.
use Rattle.std.specs.Prelude.{◌≡◌, ℕ, zero, suc, ◌+◌, ◌*◌, ◌≤◌, true, List, [], ◌∷◌, map, length, refl}
use Rattle.std.proofs.Common.{arith, length-append, length-drop, length-take}
use Rattle.std.specs.List.{All, remove, sum}
use Rattle.std.proofs.lemmas.List.{length-map}
use Rattle.std.proofs.lemmas.List.Elements.{All-head, All-tail}
use Rattle.std.proofs.lemmas.List.Sums.{sum_by-cons}
use Rattle.std.proofs.lemmas.Bool.{le-leb, leb-true, lt-ltb, ltb-true}
use Rattle.line.specs.Lines.{Lawful, Sized, longest_frame}
use Rattle.lines.specs.Cuts.{IsLength}
use Rattle.lines.specs.Rules.{packed, slots, taken_up}
use Rattle.lines.specs.Sizes.{overhead, port_octets, slot_count}

pub taken_is : (ns : List ℕ) → taken_up ns ≡ sum ns + overhead * length ns
taken_is [] = refl
taken_is (n ∷ ns) = omega (arith, taken_is ns, sum_by-cons (λ m. m) n ns, sum_by-cons (λ m. m + overhead) n ns)

pub taken_removed : (ns : List ℕ) (i : ℕ) → taken_up (remove ns i) ≤ taken_up ns
taken_removed [] zero = omega arith
taken_removed [] (suc i) = omega arith
taken_removed (n ∷ ns) zero = omega (arith, sum_by-cons (λ m. m + overhead) n ns)
taken_removed (n ∷ ns) (suc i) = omega (arith, taken_removed ns i, sum_by-cons (λ m. m + overhead) n ns, sum_by-cons (λ m. m + overhead) n (remove ns i))

-- a frame takes one octet of its own or more
pub count_below : (ns : List ℕ) → All IsLength ns → length ns ≤ sum ns
count_below [] e = omega arith
count_below (n ∷ ns) e =
    let some = All-head IsLength n ns e in
    omega (arith, count_below ns (All-tail IsLength n ns e), sum_by-cons (λ m. m) n ns)

length_removed : (ns : List ℕ) (i : ℕ) → length (remove ns i) ≤ length ns
length_removed ns i = simp (length-append, length-take, length-drop) (omega arith)

sized_taken : (fs : List (List ℕ)) → Sized fs → taken_up (map length fs) ≤ (longest_frame + overhead) * length fs
sized_taken [] s = omega arith
sized_taken (f ∷ fs) s =
    let h = s.0.1 in
    omega (arith, sized_taken fs s.1, sum_by-cons (λ m. m + overhead) (length f) (map length fs))

-- what fits the slot line would fit the packed line
pub slots_packed : (fs : List (List ℕ)) (n : ℕ) → Sized fs → n ≤ longest_frame → slots (map length fs) n ≡ true → packed (map length fs) n ≡ true
slots_packed fs n s h e =
    let few = ltb-true (length (map length fs)) slot_count e in
    let same = length-map fs length in
    let t = sized_taken fs s in
    le-leb (taken_up (map length fs) + (n + overhead)) port_octets (omega arith)

pub packed_lawful : Lawful packed
packed_lawful = record {
  empties = λ n a b. le-leb (0 + (n + overhead)) port_octets (omega arith);
  shorter = λ ns m n a l b e.
      let h = leb-true (taken_up ns + (n + overhead)) port_octets e in
      le-leb (taken_up ns + (m + overhead)) port_octets (omega arith);
  fewer = λ ns i n a b e.
      let h = leb-true (taken_up ns + (n + overhead)) port_octets e in
      le-leb (taken_up (remove ns i) + (n + overhead)) port_octets (omega (arith, taken_removed ns i));
}

pub slots_lawful : Lawful slots
slots_lawful = record {
  empties = λ n a b. refl;
  shorter = λ ns m n a l b e. e;
  fewer = λ ns i n a b e.
      let h = ltb-true (length ns) slot_count e in
      lt-ltb (length (remove ns i)) slot_count (omega (arith, length_removed ns i));
}
