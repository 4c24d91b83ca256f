-- The ledger of one port. Assumes nothing.
use Rattle.std.proofs.Common.{◌≡◌, ℕ, zero, suc, ◌+◌, ◌<◌, Bool, true, false, cond, List, [], ◌∷◌, ◌++◌, length, sym, refl, ap, ◌∙◌, subst, append-nil, arith}
use Rattle.std.specs.List.{remove}
use Rattle.rules.specs.Copies.{Octets, Fate, handed, turned, lost, waits, is_handed, is_turned, is_lost, is_waiting, Copy, copy, octets_in, pick}

-- less the one at place k
abbrev pub less : {A : Type 0} → List A → ℕ → List A
less [] k = []
less (x ∷ xs) zero = xs
less (x ∷ xs) (suc k) = x ∷ less xs k

pub less_removed : {A : Type 0} (xs : List A) (k : ℕ) → less xs k ≡ remove xs k
less_removed [] zero = refl
less_removed [] (suc k) = refl
less_removed (x ∷ xs) zero = refl
less_removed (x ∷ xs) (suc k) = ap (λ m. x ∷ m) (less_removed xs k)

abbrev is_read : Fate → Bool
is_read handed = true
is_read turned = true
is_read lost = false
is_read waits = false

-- nothing was read behind a copy that waits
abbrev Ordered : List Copy → Type 0
Ordered [] = Unit {0}
Ordered (copy o handed ∷ cs) = Ordered cs
Ordered (copy o turned ∷ cs) = Ordered cs
Ordered (copy o lost ∷ cs) = Ordered cs
Ordered (copy o waits ∷ cs) = pick is_read cs ≡ []

-- the k-th copy that waits has this fate
abbrev settle : Fate → List Copy → ℕ → List Copy
settle f [] k = []
settle f (copy o handed ∷ cs) k = copy o handed ∷ settle f cs k
settle f (copy o turned ∷ cs) k = copy o turned ∷ settle f cs k
settle f (copy o lost ∷ cs) k = copy o lost ∷ settle f cs k
settle f (copy o waits ∷ cs) zero = copy o f ∷ cs
settle f (copy o waits ∷ cs) (suc k) = copy o waits ∷ settle f cs k

settle_octets : (f : Fate) (cs : List Copy) (k : ℕ) → octets_in (settle f cs k) ≡ octets_in cs
settle_octets f [] k = refl
settle_octets f (copy o handed ∷ cs) k = ap (λ m. o ∷ m) (settle_octets f cs k)
settle_octets f (copy o turned ∷ cs) k = ap (λ m. o ∷ m) (settle_octets f cs k)
settle_octets f (copy o lost ∷ cs) k = ap (λ m. o ∷ m) (settle_octets f cs k)
settle_octets f (copy o waits ∷ cs) zero = refl
settle_octets f (copy o waits ∷ cs) (suc k) = ap (λ m. o ∷ m) (settle_octets f cs k)

settle_waits : (f : Fate) → is_waiting f ≡ false → (cs : List Copy) (k : ℕ) → pick is_waiting (settle f cs k) ≡ less (pick is_waiting cs) k
settle_waits f n [] k = refl
settle_waits f n (copy o handed ∷ cs) k = settle_waits f n cs k
settle_waits f n (copy o turned ∷ cs) k = settle_waits f n cs k
settle_waits f n (copy o lost ∷ cs) k = settle_waits f n cs k
settle_waits f n (copy o waits ∷ cs) zero = ap (λ b. cond b (o ∷ pick is_waiting cs) (pick is_waiting cs)) n
settle_waits f n (copy o waits ∷ cs) (suc k) = ap (λ m. o ∷ m) (settle_waits f n cs k)

-- other fates stay
settle_other : (t : Fate → Bool) (f : Fate) → t f ≡ false → t waits ≡ false → (cs : List Copy) (k : ℕ) → pick t (settle f cs k) ≡ pick t cs
settle_other t f n w [] k = refl
settle_other t f n w (copy o handed ∷ cs) k = ap (λ m. cond (t handed) (o ∷ m) m) (settle_other t f n w cs k)
settle_other t f n w (copy o turned ∷ cs) k = ap (λ m. cond (t turned) (o ∷ m) m) (settle_other t f n w cs k)
settle_other t f n w (copy o lost ∷ cs) k = ap (λ m. cond (t lost) (o ∷ m) m) (settle_other t f n w cs k)
settle_other t f n w (copy o waits ∷ cs) zero = ap (λ b. cond b (o ∷ pick t cs) (pick t cs)) (n ∙ sym w)
settle_other t f n w (copy o waits ∷ cs) (suc k) = ap (λ m. cond (t waits) (o ∷ m) m) (settle_other t f n w cs k)

-- nothing read, so none of such a fate
none_such : (t : Fate → Bool) → ((f : Fate) → t f ≡ true → is_read f ≡ true) → (cs : List Copy) → pick is_read cs ≡ [] → pick t cs ≡ []
none_such t h [] e = refl
none_such t h (copy o handed ∷ cs) e = cc
none_such t h (copy o turned ∷ cs) e = cc
none_such t h (copy o lost ∷ cs) e = go (t lost) refl (none_such t h cs e)
  where
    go : (v : Bool) → t lost ≡ v → pick t cs ≡ [] → cond v (o ∷ pick t cs) (pick t cs) ≡ []
    go true z ih = let c = h lost z in let y : ◌≡◌ {A = ℕ} 0 1 = cc in let x : ⊥ = omega arith in absurd x
    go false z ih = ih
none_such t h (copy o waits ∷ cs) e = go (t waits) refl (none_such t h cs e)
  where
    go : (v : Bool) → t waits ≡ v → pick t cs ≡ [] → cond v (o ∷ pick t cs) (pick t cs) ≡ []
    go true z ih = let c = h waits z in let y : ◌≡◌ {A = ℕ} 0 1 = cc in let x : ⊥ = omega arith in absurd x
    go false z ih = ih

-- the oldest that waits is the last that is read
settle_first : (t : Fate → Bool) (f : Fate) → t f ≡ true → ((g : Fate) → t g ≡ true → is_read g ≡ true) → (cs : List Copy) (x : Octets) (ws : List Octets) → Ordered cs → pick is_waiting cs ≡ x ∷ ws → pick t (settle f cs 0) ≡ pick t cs ++ (x ∷ [])
settle_first t f n h [] x ws d e = cc
settle_first t f n h (copy o handed ∷ cs) x ws d e = go (t handed) (settle_first t f n h cs x ws d e)
  where
    go : (v : Bool) → pick t (settle f cs 0) ≡ pick t cs ++ (x ∷ []) → cond v (o ∷ pick t (settle f cs 0)) (pick t (settle f cs 0)) ≡ cond v (o ∷ pick t cs) (pick t cs) ++ (x ∷ [])
    go true ih = ap (λ m. o ∷ m) ih
    go false ih = ih
settle_first t f n h (copy o turned ∷ cs) x ws d e = go (t turned) (settle_first t f n h cs x ws d e)
  where
    go : (v : Bool) → pick t (settle f cs 0) ≡ pick t cs ++ (x ∷ []) → cond v (o ∷ pick t (settle f cs 0)) (pick t (settle f cs 0)) ≡ cond v (o ∷ pick t cs) (pick t cs) ++ (x ∷ [])
    go true ih = ap (λ m. o ∷ m) ih
    go false ih = ih
settle_first t f n h (copy o lost ∷ cs) x ws d e = go (t lost) (settle_first t f n h cs x ws d e)
  where
    go : (v : Bool) → pick t (settle f cs 0) ≡ pick t cs ++ (x ∷ []) → cond v (o ∷ pick t (settle f cs 0)) (pick t (settle f cs 0)) ≡ cond v (o ∷ pick t cs) (pick t cs) ++ (x ∷ [])
    go true ih = ap (λ m. o ∷ m) ih
    go false ih = ih
settle_first t f n h (copy o waits ∷ cs) x ws d e =
    let none : pick t cs ≡ [] = none_such t h cs d in
    let same : o ≡ x = cc in
    let left : cond (t f) (o ∷ pick t cs) (pick t cs) ≡ o ∷ [] = ap (λ b. cond b (o ∷ pick t cs) (pick t cs)) n ∙ ap (λ m. o ∷ m) none in
    let right : cond (t waits) (o ∷ pick t cs) (pick t cs) ≡ [] = none_such t h (copy o waits ∷ cs) d in
    left ∙ ap (λ y. y ∷ []) same ∙ ap (λ m. m ++ (x ∷ [])) (sym right)

settle_count : (cs : List Copy) (k : ℕ) → k < length (pick is_waiting cs) → length (pick is_lost (settle lost cs k)) ≡ length (pick is_lost cs) + 1
settle_count [] k l = let x : ⊥ = omega arith in absurd x
settle_count (copy o handed ∷ cs) k l = settle_count cs k l
settle_count (copy o turned ∷ cs) k l = settle_count cs k l
settle_count (copy o lost ∷ cs) k l = let ih = settle_count cs k l in omega arith
settle_count (copy o waits ∷ cs) zero l = omega arith
settle_count (copy o waits ∷ cs) (suc k) l = settle_count cs k (omega arith)

ordered_none : (cs : List Copy) → pick is_read cs ≡ [] → Ordered cs
ordered_none [] e = tt
ordered_none (copy o handed ∷ cs) e = let y : ◌≡◌ {A = ℕ} 0 1 = cc in let x : ⊥ = omega arith in absurd x
ordered_none (copy o turned ∷ cs) e = let y : ◌≡◌ {A = ℕ} 0 1 = cc in let x : ⊥ = omega arith in absurd x
ordered_none (copy o lost ∷ cs) e = ordered_none cs e
ordered_none (copy o waits ∷ cs) e = e

ordered_handed : (cs : List Copy) → Ordered cs → Ordered (settle handed cs 0)
ordered_handed [] d = tt
ordered_handed (copy o handed ∷ cs) d = ordered_handed cs d
ordered_handed (copy o turned ∷ cs) d = ordered_handed cs d
ordered_handed (copy o lost ∷ cs) d = ordered_handed cs d
ordered_handed (copy o waits ∷ cs) d = ordered_none cs d

ordered_turned : (cs : List Copy) → Ordered cs → Ordered (settle turned cs 0)
ordered_turned [] d = tt
ordered_turned (copy o handed ∷ cs) d = ordered_turned cs d
ordered_turned (copy o turned ∷ cs) d = ordered_turned cs d
ordered_turned (copy o lost ∷ cs) d = ordered_turned cs d
ordered_turned (copy o waits ∷ cs) d = ordered_none cs d

ordered_lost : (cs : List Copy) (k : ℕ) → Ordered cs → Ordered (settle lost cs k)
ordered_lost [] k d = tt
ordered_lost (copy o handed ∷ cs) k d = ordered_lost cs k d
ordered_lost (copy o turned ∷ cs) k d = ordered_lost cs k d
ordered_lost (copy o lost ∷ cs) k d = ordered_lost cs k d
ordered_lost (copy o waits ∷ cs) zero d = ordered_none cs d
ordered_lost (copy o waits ∷ cs) (suc k) d = settle_other is_read lost refl refl cs k ∙ d

-- copies more
abbrev fresh : List Octets → List Copy
fresh [] = []
fresh (o ∷ os) = copy o waits ∷ fresh os

fresh_octets : (os : List Octets) → octets_in (fresh os) ≡ os
fresh_octets [] = refl
fresh_octets (o ∷ os) = ap (λ m. o ∷ m) (fresh_octets os)

fresh-pick : (t : Fate → Bool) → t waits ≡ false → (os : List Octets) → pick t (fresh os) ≡ []
fresh-pick t w [] = refl
fresh-pick t w (o ∷ os) = ap (λ b. cond b (o ∷ pick t (fresh os)) (pick t (fresh os))) w ∙ fresh-pick t w os

fresh_waits : (os : List Octets) → pick is_waiting (fresh os) ≡ os
fresh_waits [] = refl
fresh_waits (o ∷ os) = ap (λ m. o ∷ m) (fresh_waits os)

octets-++ : (a b : List Copy) → octets_in (a ++ b) ≡ octets_in a ++ octets_in b
octets-++ [] b = refl
octets-++ (copy o f ∷ a) b = ap (λ m. o ∷ m) (octets-++ a b)

pick-++ : (t : Fate → Bool) (a b : List Copy) → pick t (a ++ b) ≡ pick t a ++ pick t b
pick-++ t [] b = refl
pick-++ t (copy o f ∷ a) b = go (t f) (pick-++ t a b)
  where
    go : (v : Bool) → pick t (a ++ b) ≡ pick t a ++ pick t b → cond v (o ∷ pick t (a ++ b)) (pick t (a ++ b)) ≡ cond v (o ∷ pick t a) (pick t a) ++ pick t b
    go true ih = ap (λ m. o ∷ m) ih
    go false ih = ih

ordered_fresh : (cs : List Copy) (os : List Octets) → Ordered cs → Ordered (cs ++ fresh os)
ordered_fresh [] os d = ordered_none (fresh os) (fresh-pick is_read refl os)
ordered_fresh (copy o handed ∷ cs) os d = ordered_fresh cs os d
ordered_fresh (copy o turned ∷ cs) os d = ordered_fresh cs os d
ordered_fresh (copy o lost ∷ cs) os d = ordered_fresh cs os d
ordered_fresh (copy o waits ∷ cs) os d = pick-++ is_read cs (fresh os) ∙ ap (λ m. m ++ pick is_read (fresh os)) d ∙ fresh-pick is_read refl os

pub record Ledger (xs hs ts : List Octets) (n : ℕ) (ws : List Octets) : Type 0 where
  pub copies : List Copy
  pub ordered : Ordered copies
  pub all : octets_in copies ≡ xs
  pub over : pick is_handed copies ≡ hs
  pub aside : pick is_turned copies ≡ ts
  pub gone : length (pick is_lost copies) ≡ n
  pub still : pick is_waiting copies ≡ ws

module _ (xs hs ts : List Octets) (n : ℕ) (ws : List Octets) (l : Ledger xs hs ts n ws) where
  pub ledger_put : (os : List Octets) → Ledger (xs ++ os) hs ts n (ws ++ os)
  ledger_put os = record {
    copies = l.copies ++ fresh os;
    ordered = ordered_fresh l.copies os l.ordered;
    all = octets-++ l.copies (fresh os) ∙ ap (λ m. m ++ octets_in (fresh os)) l.all ∙ ap (λ m. xs ++ m) (fresh_octets os);
    over = pick-++ is_handed l.copies (fresh os) ∙ ap (λ m. pick is_handed l.copies ++ m) (fresh-pick is_handed refl os) ∙ append-nil _ ∙ l.over;
    aside = pick-++ is_turned l.copies (fresh os) ∙ ap (λ m. pick is_turned l.copies ++ m) (fresh-pick is_turned refl os) ∙ append-nil _ ∙ l.aside;
    gone = ap length (pick-++ is_lost l.copies (fresh os) ∙ ap (λ m. pick is_lost l.copies ++ m) (fresh-pick is_lost refl os) ∙ append-nil _) ∙ l.gone;
    still = pick-++ is_waiting l.copies (fresh os) ∙ ap (λ m. m ++ pick is_waiting (fresh os)) l.still ∙ ap (λ m. ws ++ m) (fresh_waits os);
  }

  handed-read : (g : Fate) → is_handed g ≡ true → is_read g ≡ true
  handed-read handed e = refl
  handed-read turned e = refl
  handed-read lost e = e
  handed-read waits e = e

  turned_read : (g : Fate) → is_turned g ≡ true → is_read g ≡ true
  turned_read handed e = refl
  turned_read turned e = refl
  turned_read lost e = e
  turned_read waits e = e

  pub ledger_hand : (o : Octets) (rest : List Octets) → ws ≡ o ∷ rest → Ledger xs (hs ++ (o ∷ [])) ts n rest
  ledger_hand o rest e = record {
    copies = settle handed l.copies 0;
    ordered = ordered_handed l.copies l.ordered;
    all = settle_octets handed l.copies 0 ∙ l.all;
    over = settle_first is_handed handed refl handed-read l.copies o rest l.ordered (l.still ∙ e) ∙ ap (λ m. m ++ (o ∷ [])) l.over;
    aside = settle_other is_turned handed refl refl l.copies 0 ∙ l.aside;
    gone = ap length (settle_other is_lost handed refl refl l.copies 0) ∙ l.gone;
    still = settle_waits handed refl l.copies 0 ∙ ap (λ m. less m 0) (l.still ∙ e);
  }

  pub ledger_turn : (o : Octets) (rest : List Octets) → ws ≡ o ∷ rest → Ledger xs hs (ts ++ (o ∷ [])) n rest
  ledger_turn o rest e = record {
    copies = settle turned l.copies 0;
    ordered = ordered_turned l.copies l.ordered;
    all = settle_octets turned l.copies 0 ∙ l.all;
    over = settle_other is_handed turned refl refl l.copies 0 ∙ l.over;
    aside = settle_first is_turned turned refl turned_read l.copies o rest l.ordered (l.still ∙ e) ∙ ap (λ m. m ++ (o ∷ [])) l.aside;
    gone = ap length (settle_other is_lost turned refl refl l.copies 0) ∙ l.gone;
    still = settle_waits turned refl l.copies 0 ∙ ap (λ m. less m 0) (l.still ∙ e);
  }

  pub ledger_lose : (k : ℕ) → k < length ws → Ledger xs hs ts (n + 1) (less ws k)
  ledger_lose k h = record {
    copies = settle lost l.copies k;
    ordered = ordered_lost l.copies k l.ordered;
    all = settle_octets lost l.copies k ∙ l.all;
    over = settle_other is_handed lost refl refl l.copies k ∙ l.over;
    aside = settle_other is_turned lost refl refl l.copies k ∙ l.aside;
    gone = settle_count l.copies k (subst (λ m. k < length m) (sym l.still) h) ∙ ap (λ m. m + 1) l.gone;
    still = settle_waits lost refl l.copies k ∙ ap (λ m. less m k) l.still;
  }

-- every copy has one fate
pub fates : (cs : List Copy) → length (octets_in cs) ≡ length (pick is_handed cs) + length (pick is_turned cs) + length (pick is_lost cs) + length (pick is_waiting cs)
fates [] = refl
fates (copy o handed ∷ cs) = let h = fates cs in omega arith
fates (copy o turned ∷ cs) = let h = fates cs in omega arith
fates (copy o lost ∷ cs) = let h = fates cs in omega arith
fates (copy o waits ∷ cs) = let h = fates cs in omega arith
