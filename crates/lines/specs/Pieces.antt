-- Laws of frames that lie one after another. Assumes nothing.
use Rattle.std.specs.Prelude.{◌≡◌, ℕ, zero, suc, ◌+◌, ◌-◌, ◌<◌, ◌≤◌, true, ◌&&◌, List, [], ◌∷◌, ◌++◌, map, length, get_or, take, drop, Some, None, nat_le, nat_lt, slice_index, slice_index_or, refl}
use Rattle.std.proofs.Common.{sym, ap, ◌∙◌, add_assoc, zero-add, arith, length-drop, length-take}
use Rattle.std.specs.List.{All, remove, remove_range, sum}
use Rattle.std.proofs.lemmas.Bool.{and_from, cond-true, le-leb, lt-ltb}
use Rattle.std.proofs.lemmas.List.{append-nil, drop_all, nil_from_length, take-append-le, drop-append-le, take-take, drop-take, drop-drop, take_all, get_or_read, get_or-take, get_or-drop}
use Rattle.std.proofs.lemmas.List.Elements.{All-append, All-drop, All-get_or, All-head, All-tail, All-take}
use Rattle.std.proofs.lemmas.List.Sums.{sum_by-cons, sum_by_more_le}
use Rattle.line.specs.Lines.{Sized, first_of}
use Rattle.lines.specs.Cuts.{IsLength, IsPiece, cut}

sum_cons : (n : ℕ) (ns : List ℕ) → sum (n ∷ ns) ≡ n + sum ns
sum_cons n ns = sum_by-cons (λ m. m) n ns

-- without the first piece
record Rest (n : ℕ) (ns bs : List ℕ) : Type 0 where
  pub within : n ≤ length bs
  pub left : sum ns ≡ length (drop n bs)
  pub first : length (take n bs) ≡ n

rest : (n : ℕ) (ns bs : List ℕ) → sum (n ∷ ns) ≡ length bs → Rest n ns bs
rest n ns bs e =
    let s = sum_cons n ns in
    record { within = omega arith; left = simp length-drop (omega arith); first = simp length-take (omega arith) }

pub cut_push : (ns bs f : List ℕ) (n : ℕ) → sum ns ≡ length bs → n ≡ length f → cut (ns ++ n ∷ []) (bs ++ f) ≡ cut ns bs ++ f ∷ []
cut_push [] bs f n e k =
    let nil = nil_from_length bs (sym e) in
    rw nil (ap (λ x. x ∷ []) (take_all n f (omega arith)))
cut_push (m ∷ ns) bs f n e k =
    let r = rest m ns bs e in
    rw (take-append-le m bs f r.within, drop-append-le m bs f r.within) (ap (λ x. take m bs ∷ x) (cut_push ns (drop m bs) f n r.left k))

pub length_cut : (ns bs : List ℕ) → length (cut ns bs) ≡ length ns
length_cut [] bs = refl
length_cut (n ∷ ns) bs = ap suc (length_cut ns (drop n bs))

pub lengths_cut : (ns bs : List ℕ) → sum ns ≡ length bs → map length (cut ns bs) ≡ ns
lengths_cut [] bs e = refl
lengths_cut (n ∷ ns) bs e =
    let r = rest n ns bs e in
    rw r.first (ap (λ x. n ∷ x) (lengths_cut ns (drop n bs) r.left))

pub cut_sized : (ns bs : List ℕ) → sum ns ≡ length bs → All IsLength ns → Sized (cut ns bs)
cut_sized [] bs e s = tt
cut_sized (n ∷ ns) bs e s =
    let r = rest n ns bs e in
    let here = All-head IsLength n ns s in
    ((omega arith, omega arith), cut_sized ns (drop n bs) r.left (All-tail IsLength n ns s))

pub sized_removed : (ns : List ℕ) (i : ℕ) → All IsLength ns → All IsLength (remove ns i)
sized_removed ns i s = All-append IsLength (take i ns) (drop (suc i) ns) (All-take IsLength i ns s) (All-drop IsLength (suc i) ns s)

-- the piece i goes on for its length, and ends before the octets do
pub piece : (ns bs : List ℕ) (i : ℕ) → i < length ns → sum ns ≡ length bs → All IsLength ns → IsPiece ns i (sum (take i ns)) (sum (take i ns) + slice_index ns i) × (sum (take i ns) + slice_index ns i ≤ length bs)
piece ns bs i h e s =
    let some = All-get_or IsLength ns i 0 h s in
    let within = sum_by_more_le (λ m. m) ns i 0 h in
    (record { there = h; from = refl; long = refl; some = omega arith }, omega arith)

get_or-cut : (ns bs : List ℕ) (i : ℕ) → i < length ns → slice_index_or (cut ns bs) i [] ≡ take (slice_index ns i) (drop (sum (take i ns)) bs)
get_or-cut [] bs i h = absurd (omega arith)
get_or-cut (m ∷ ns) bs zero h = refl
get_or-cut (m ∷ ns) bs (suc i) h =
    rw (sum_cons m (take i ns)) (get_or-cut ns (drop m bs) i (omega arith) ∙ ap (take (slice_index ns i)) (drop-drop (sum (take i ns)) m bs))

-- with its octets gone, the piece is
removed_at : (ns bs : List ℕ) (i : ℕ) → i < length ns → sum ns ≡ length bs → cut (remove ns i) (remove_range bs (sum (take i ns)) (sum (take i ns) + slice_index ns i)) ≡ remove (cut ns bs) i
removed_at [] bs i h e = absurd (omega arith)
removed_at (m ∷ ns) bs zero h e = ap (λ k. cut ns (drop k bs)) (zero-add m)
removed_at (m ∷ ns) bs (suc i) h e =
    let off : ℕ = sum (take i ns) in
    let n : ℕ = get_or ns i 0 in
    let r = rest m ns bs e in
    let front : m ≤ length (take (m + off) bs) = let w = r.within in simp length-take (omega arith) in
    let back : List ℕ = drop (m + off + n) bs in
    let head : take m (take (m + off) bs ++ back) ≡ take m bs = take-append-le m (take (m + off) bs) back front ∙ take-take m (m + off) bs (omega arith) in
    let moved : drop (m + off + n) bs ≡ drop (off + n) (drop m bs) = ap (λ k. drop k bs) (add_assoc m off n) ∙ sym (drop-drop (off + n) m bs) in
    let tail : drop m (take (m + off) bs ++ back) ≡ take off (drop m bs) ++ drop (off + n) (drop m bs) = drop-append-le m (take (m + off) bs) back front ∙ ap (λ x. x ++ back) (drop-take m off bs) ∙ ap (λ x. take off (drop m bs) ++ x) moved in
    rw (sum_cons m (take i ns)) (
    ap (λ x. x ∷ cut (remove ns i) (drop m (take (m + off) bs ++ back))) head
    ∙ ap (λ x. take m bs ∷ cut (remove ns i) x) tail
    ∙ ap (λ x. take m bs ∷ x) (removed_at ns (drop m bs) i (omega arith) r.left))

pub cut_removed : (ns bs : List ℕ) (i a b : ℕ) → IsPiece ns i a b → sum ns ≡ length bs → cut (remove ns i) (remove_range bs a b) ≡ remove (cut ns bs) i
cut_removed ns bs i a b p e =
    let at = p.from in
    let to : b ≡ sum (take i ns) + slice_index ns i = omega arith in
    rw (at, to) (removed_at ns bs i p.there e)

pub first_is : (ns bs : List ℕ) (i a b x : ℕ) → IsPiece ns i a b → b ≤ length bs → x ≡ slice_index_or bs a x
    → Some x ≡ first_of (cut ns bs) (i + 1)
first_is ns bs i a b x p h r =
    let some = p.some in
    let read : x ≡ get_or bs a 0 = get_or_read bs a x (omega arith) r 0 in
    let long : 0 < slice_index ns i = omega arith in
    let here : get_or (slice_index_or (cut ns bs) i []) 0 0 ≡ get_or bs (sum (take i ns) + 0) 0 = ap (λ f. slice_index f 0) (get_or-cut ns bs i p.there) ∙ get_or-take (slice_index ns i) (drop (sum (take i ns)) bs) 0 0 long ∙ get_or-drop (sum (take i ns)) bs 0 0 in
    let place : sum (take i ns) + 0 ≡ a = omega arith in
    let same : x ≡ get_or (slice_index_or (cut ns bs) i []) 0 0 = read ∙ sym (here ∙ ap (λ m. slice_index bs m) place) in
    let within = length_cut ns bs in
    let back : i ≡ i + 1 - 1 = omega arith in
    let there : nat_lt 0 (i + 1) && nat_le (i + 1) (length (cut ns bs)) ≡ true = and_from _ _ (lt-ltb 0 (i + 1) (omega arith)) (le-leb (i + 1) (length (cut ns bs)) (omega arith)) in
    ap Some (same ∙ ap (λ j. get_or (slice_index_or (cut ns bs) j []) 0 0) back) ∙ sym (cond-true _ _ None there)

pub removed_past : {X : Type 0} (xs : List X) (i : ℕ) → length xs ≤ i → xs ≡ remove xs i
removed_past xs i h =
    let none : drop (suc i) xs ≡ [] = drop_all (suc i) xs (omega arith) in
    rw (take_all i xs h, none) (sym (append-nil xs))
