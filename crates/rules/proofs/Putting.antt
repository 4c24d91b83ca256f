-- What frames put one after the other leave at one port. Assumes nothing.
use Rattle.std.proofs.Common.{◌≡◌, ℕ, Bool, true, false, cond, not, ◌&&◌, ◌||◌, eqb, ltb, List, [], ◌∷◌, ◌++◌, length, sym, refl, ap, ◌∙◌, append_assoc, append-nil, arith}
use Rattle.std.specs.List.{AllByRecursion as All}
use Rattle.std.proofs.lemmas.Bool.{and_from, and_parts, cond-true, cond-false, eqb-true}
use Rattle.line.specs.Lines.{Rule, Waiting, admits, added}
use Rattle.line.specs.Offers.{offered}
use Rattle.book.specs.Matching.{some}
use Rattle.book.specs.Sound.{each}
use Rattle.rules.proofs.Masks.{mask_at}
use Rattle.rules.specs.Registrar.{Sending, sending}
use Rattle.line.specs.Laws.{in_mask}
use Rattle.rules.specs.Puts.{Put, offer, offers, queued, arrived, missed_mask}

-- what was to be put at the port p
abbrev pub sent : ℕ → List Sending → List (List ℕ)
sent p [] = []
sent p (x ∷ xs) = cond (eqb p x.port) (x.octets ∷ sent p xs) (sent p xs)

-- some frame for the port p did not fit
abbrev pub missed_at : ℕ → List Put → Bool
missed_at p ps = some (λ x. not x.fitted && eqb p x.port) ps

offered_at : (rule : Rule) (w : Waiting) (x : Sending) (p : ℕ) → offered rule w x.port x.octets p ≡ w p ++ cond (eqb p x.port && (offer rule w x).fitted) (x.octets ∷ []) []
offered_at rule w x p = go (admits rule w x.port (length x.octets)) (eqb p x.port) refl
  where
    go : (f v : Bool) → eqb p x.port ≡ v → cond f (added w x.port x.octets) w p ≡ w p ++ cond (v && f) (x.octets ∷ []) []
    go true true z = cond-true (eqb p x.port) _ _ z ∙ ap (λ q. w q ++ (x.octets ∷ [])) (sym (eqb-true p x.port z))
    go true false z = cond-false (eqb p x.port) _ _ z ∙ sym (append-nil (w p))
    go false true z = sym (append-nil (w p))
    go false false z = sym (append-nil (w p))

cond_cons : {A : Type 0} (b : Bool) (x : A) (xs ys : List A) → (ys ++ cond b (x ∷ []) []) ++ xs ≡ ys ++ cond b (x ∷ xs) xs
cond_cons true x xs ys = append_assoc ys (x ∷ []) xs
cond_cons false x xs ys = ap (λ z. z ++ xs) (append-nil ys)

-- what waits then: what waited, and what fitted
pub queued_at : (rule : Rule) (w : Waiting) (xs : List Sending) (p : ℕ) → queued rule w xs p ≡ w p ++ arrived p (offers rule w xs)
queued_at rule w [] p = sym (append-nil (w p))
queued_at rule w (x ∷ xs) p =
    queued_at rule (offered rule w x.port x.octets) xs p
    ∙ ap (λ z. z ++ arrived p (offers rule (offered rule w x.port x.octets) xs)) (offered_at rule w x p)
    ∙ cond_cons (eqb p x.port && (offer rule w x).fitted) x.octets (arrived p (offers rule (offered rule w x.port x.octets) xs)) (w p)

-- at most one frame
abbrev pub Few : List (List ℕ) → Type 0
Few [] = Unit {0}
Few (o ∷ []) = Unit {0}
Few (o ∷ (x ∷ os)) = ⊥

pub none_put : (rule : Rule) (w : Waiting) (xs : List Sending) (p : ℕ) → sent p xs ≡ [] → (arrived p (offers rule w xs) ≡ []) × (missed_at p (offers rule w xs) ≡ false)
none_put rule w [] p e = (refl, refl)
none_put rule w (x ∷ xs) p e = go (eqb p x.port) e (none_put rule (offered rule w x.port x.octets) xs p)
  where
    rest : List Put
    rest = offers rule (offered rule w x.port x.octets) xs

    go : (v : Bool) → cond v (x.octets ∷ sent p xs) (sent p xs) ≡ [] → (sent p xs ≡ [] → (arrived p rest ≡ []) × (missed_at p rest ≡ false))
        → (cond (v && (offer rule w x).fitted) (x.octets ∷ arrived p rest) (arrived p rest) ≡ []) × ((not (offer rule w x).fitted && v) || missed_at p rest ≡ false)
    go true d ih = absurd (cons_nil d)
      where
        cons_nil : x.octets ∷ sent p xs ≡ [] → ⊥
        cons_nil z = let y : ◌≡◌ {A = ℕ} 0 1 = cc in omega arith
    go false d ih = let r = ih d in (r.0, go2 (offer rule w x).fitted r.1)
      where
        go2 : (f : Bool) → missed_at p rest ≡ false → (not f && false) || missed_at p rest ≡ false
        go2 true z = z
        go2 false z = z

pub sent_none : (xs : List Sending) (p : ℕ) → All (λ (x : Sending). eqb p x.port ≡ false) xs → sent p xs ≡ []
sent_none [] p h = refl
sent_none (x ∷ xs) p h = cond-false (eqb p x.port) _ _ h.0 ∙ sent_none xs p h.1

-- where nothing is put, what waited waits
pub queued_none : (rule : Rule) (w : Waiting) (xs : List Sending) (p : ℕ) → sent p xs ≡ [] → queued rule w xs p ≡ w p
queued_none rule w xs p h = queued_at rule w xs p ∙ ap (λ z. w p ++ z) (none_put rule w xs p h).0 ∙ append-nil (w p)

-- of at most one frame for a port it is told whether it fitted
pub one_put : (rule : Rule) (w : Waiting) (xs : List Sending) (p : ℕ) → Few (sent p xs) → arrived p (offers rule w xs) ≡ cond (missed_at p (offers rule w xs)) [] (sent p xs)
one_put rule w [] p e = refl
one_put rule w (x ∷ xs) p e = go (eqb p x.port) e (one_put rule (offered rule w x.port x.octets) xs p)
  where
    rest : List Put
    rest = offers rule (offered rule w x.port x.octets) xs

    few_tail : (os : List (List ℕ)) → Few (x.octets ∷ os) → os ≡ []
    few_tail [] h = refl
    few_tail (o ∷ os) h = absurd h

    last : (f : Bool) → sent p xs ≡ [] → (arrived p rest ≡ []) × (missed_at p rest ≡ false)
        → cond f (x.octets ∷ arrived p rest) (arrived p rest) ≡ cond ((not f && true) || missed_at p rest) [] (x.octets ∷ sent p xs)
    last true z r = ap (λ y. x.octets ∷ y) (r.0 ∙ sym z) ∙ sym (cond-false (missed_at p rest) [] (x.octets ∷ sent p xs) r.1)
    last false z r = r.0

    only : (f : Bool) → (not f && false) || missed_at p rest ≡ missed_at p rest
    only true = refl
    only false = refl

    go : (v : Bool) → Few (cond v (x.octets ∷ sent p xs) (sent p xs)) → (Few (sent p xs) → arrived p rest ≡ cond (missed_at p rest) [] (sent p xs))
        → cond (v && (offer rule w x).fitted) (x.octets ∷ arrived p rest) (arrived p rest)
        ≡ cond ((not (offer rule w x).fitted && v) || missed_at p rest) [] (cond v (x.octets ∷ sent p xs) (sent p xs))
    go true h ih =
        let z = few_tail (sent p xs) h in
        last (offer rule w x).fitted z (none_put rule (offered rule w x.port x.octets) xs p z)
    go false h ih = ih h ∙ ap (λ b. cond b [] (sent p xs)) (sym (only (offer rule w x).fitted))

pub queued_one : (rule : Rule) (w : Waiting) (xs : List Sending) (p : ℕ) → Few (sent p xs)
    → queued rule w xs p ≡ cond (missed_at p (offers rule w xs)) (w p) (w p ++ sent p xs)
queued_one rule w xs p h = queued_at rule w xs p ∙ ap (λ z. w p ++ z) (one_put rule w xs p h) ∙ go (missed_at p (offers rule w xs))
  where
    go : (v : Bool) → w p ++ cond v [] (sent p xs) ≡ cond v (w p) (w p ++ sent p xs)
    go true = append-nil (w p)
    go false = refl

-- a frame that fits is put
pub put_one : (rule : Rule) (w : Waiting) (q : ℕ) (o : List ℕ) → admits rule w q (length o) ≡ true → queued rule w (sending q o ∷ []) ≡ added w q o
put_one rule w q o h = cond-true (admits rule w q (length o)) _ _ h

pub ports_of : (rule : Rule) (w : Waiting) (xs : List Sending) → each (λ x. ltb x.port 64) xs ≡ true → each (λ x. ltb x.port 64) (offers rule w xs) ≡ true
ports_of rule w [] h = refl
ports_of rule w (x ∷ xs) h = let a = and_parts _ _ h in and_from _ _ a.0 (ports_of rule (offered rule w x.port x.octets) xs a.1)

-- the mask of what was missed has just the ports where a frame did not fit
pub missed-in_mask : (rule : Rule) (w : Waiting) (xs : List Sending) (p : ℕ) → each (λ x. ltb x.port 64) xs ≡ true → in_mask (missed_mask (offers rule w xs)) p ≡ missed_at p (offers rule w xs)
missed-in_mask rule w xs p h = mask_at (λ x. not x.fitted) (offers rule w xs) p (ports_of rule w xs h)
