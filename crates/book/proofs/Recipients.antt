-- Who receives a message, in the subject's words. Assumes nothing.
use Rattle.std.proofs.Common.{◌≡◌, ℕ, Bool, true, false, List, [], ◌∷◌, filter, refl, inl, inr, ⊎_elim, arith}
use Rattle.std.proofs.lemmas.Bool.{cases_Bool, and_parts, and_from, or_cases, or_left, or_right}
use Rattle.table.proofs.Places.{ascending_kept}
use Rattle.words.specs.Keys.{member_key}
use Rattle.book.specs.Matching.{asks, in_audience, receives, some}
use Rattle.book.specs.Laws.{In, RecipientsLaw}
use Rattle.book.proofs.Orders.{ltb_order}

pub some_in : {A : Type 0} (p : A → Bool) (xs : List A) → some p xs ≡ true → (x : A) × In x xs × (p x ≡ true)
some_in p [] h = let z : ◌≡◌ {A = ℕ} 0 1 = cc in absurd (omega arith)
some_in p (x ∷ xs) h =
    ⊎_elim (λ (q : p x ≡ true). (x, inl refl, q))
    (λ (q : some p xs ≡ true). let r = some_in p xs q in (r.0, inr r.1, r.2))
    (or_cases (p x) (some p xs) h)

pub in_some : {A : Type 0} (p : A → Bool) (x : A) (xs : List A) → In x xs → p x ≡ true → some p xs ≡ true
in_some p x [] i h = absurd i
in_some p x (y ∷ xs) (inl e) h = or_left _ _ (rw e at h)
in_some p x (y ∷ xs) (inr i) h = or_right (p y) _ (in_some p x xs i h)

kept_in : {A : Type 0} (p : A → Bool) (x : A) (xs : List A) → In x (filter p xs) → In x xs × (p x ≡ true)
kept_in p x [] i = absurd i
kept_in p x (y ∷ xs) i =
    ⊎_elim
    (λ (q : p y ≡ true).
    let j : In x (y ∷ filter p xs) = rw q at i in
    ⊎_elim (λ (e : x ≡ y). (inl e, rw e q)) (λ (k : In x (filter p xs)). let r = kept_in p x xs k in (inr r.0, r.1)) j)
    (λ (q : p y ≡ false). let r = kept_in p x xs (rw q at i) in (inr r.0, r.1))
    (cases_Bool (p y))

in_kept : {A : Type 0} (p : A → Bool) (x : A) (xs : List A) → In x xs → p x ≡ true → In x (filter p xs)
in_kept p x [] i h = absurd i
in_kept p x (y ∷ xs) (inl e) h = rw (rw e at h) (inl e)
in_kept p x (y ∷ xs) (inr i) h =
    ⊎_elim (λ (q : p y ≡ true). rw q (inr (in_kept p x xs i h)))
    (λ (q : p y ≡ false). rw q (in_kept p x xs i h))
    (cases_Bool (p y))

pub recipients_law : RecipientsLaw
recipients_law ms us a f s = record {
  asked = λ m i.
      let r = kept_in (receives us a f s) m ms i in
      let p = and_parts (in_audience a m) (some (asks a f s m) us) r.1 in
      (r.0, p.0, some_in (asks a f s m) us p.1);
  served = λ m u i h j k. in_kept (receives us a f s) m ms i (and_from _ _ h (in_some (asks a f s m) u us j k));
  once = λ h. ascending_kept ltb_order member_key (receives us a f s) ms h;
}
