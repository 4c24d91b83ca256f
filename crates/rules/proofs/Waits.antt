-- What waits at a port does not put its end out while the book has it there, and names the member that the book has
-- there. First in, first out is needed here: what lies behind a welcome is read after it. Assumes nothing.
use Rattle.std.proofs.Common.{◌≡◌, ℕ, suc, ◌<◌, ◌≤◌, true, false, ◌&&◌, eqb, List, [], ◌∷◌, ◌++◌, sym, refl, ap, ◌∙◌, subst, append_assoc, arith}
use Rattle.std.proofs.lemmas.Bool.{both_ways, eqb-true, and_parts, cond_both, cond-true, cond-false}
use Rattle.words.specs.declared.member.Member.{Member}
use Rattle.words.specs.Records.{member_of}
use Rattle.rules.specs.declared.standing.Standing.{Standing}
use Rattle.rules.specs.declared.standing.Standing.TheVariants.{Out, Asked, In}
use Rattle.rules.specs.Listings.{Listing, has}
use Rattle.rules.specs.Meanings.{Meaning, rejects, dead, changes, applies, welcomes, reports, carries, garbled, is_message}
use Rattle.rules.specs.Ends.{Place, answers, reads, reading}
use Rattle.rules.proofs.Queries.{Asc, asc_drop, above_at, in_of, ins, Chain, chain_squeeze}

-- it does not put out the end that is w
abbrev pub Harmless : Member → Meaning → Type 0
Harmless w (rejects f y) = Unit {0}
Harmless w (dead m) = (eqb m.number w.number && eqb m.role w.role) ≡ false
Harmless w (changes c) = Unit {0}
Harmless w (applies q a) = Unit {0}
Harmless w (welcomes q v b) = Unit {0}
Harmless w (reports b) = has w b ≡ true
Harmless w (carries h o) = Unit {0}
Harmless w (garbled e) = Unit {0}

abbrev pub Safe : Member → List Meaning → Type 0
Safe w [] = Unit {0}
Safe w (f ∷ fs) = Harmless w f × Safe w fs

-- if f is the welcome that answers q, it names w, and what waits behind is safe for w
abbrev pub Opens : ℕ → Member → Meaning → List Meaning → Type 0
Opens q w f fs = (v : Member) (b : Listing) → f ≡ welcomes q v b → (v ≡ w) × Safe w fs

abbrev pub Behind : ℕ → Member → List Meaning → Type 0
Behind q w [] = Unit {0}
Behind q w (f ∷ fs) = Opens q w f fs × Behind q w fs

abbrev pub Stands : ℕ → Member → Standing → List Meaning → Type 0
Stands p w Out fs = Unit {0}
Stands p w (Asked r q) fs = Behind q w fs
Stands p w (In n r) fs = (w ≡ member_of n r p) × Safe w fs

pub safe_append : (w : Member) (a b : List Meaning) → Safe w a → Safe w b → Safe w (a ++ b)
safe_append w [] b h k = k
safe_append w (f ∷ a) b h k = (h.0, safe_append w a b h.1 k)

pub safe_drop : (w : Member) (a : List Meaning) (f : Meaning) (b : List Meaning) → Safe w (a ++ (f ∷ b)) → Safe w (a ++ b)
safe_drop w [] f b h = h.1
safe_drop w (g ∷ a) f b h = (h.0, safe_drop w a f b h.1)

pub behind_append : (q : ℕ) (w : Member) (a b : List Meaning) → Behind q w a → Safe w b → Behind q w b → Behind q w (a ++ b)
behind_append q w [] b h k l = l
behind_append q w (f ∷ a) b h k l = (λ v u e. let r = h.0 v u e in (r.0, safe_append w a b r.1 k), behind_append q w a b h.1 k l)

pub behind_drop : (q : ℕ) (w : Member) (a : List Meaning) (f : Meaning) (b : List Meaning) → Behind q w (a ++ (f ∷ b)) → Behind q w (a ++ b)
behind_drop q w [] f b h = h.1
behind_drop q w (g ∷ a) f b h = (λ v u e. let r = h.0 v u e in (r.0, safe_drop w a f b r.1), behind_drop q w a f b h.1)

pub stands-append : (p : ℕ) (w : Member) (m : Standing) (a b : List Meaning) → Stands p w m a → Safe w b → ((q : ℕ) → Behind q w b) → Stands p w m (a ++ b)
stands-append p w Out a b h k l = tt
stands-append p w (Asked r q) a b h k l = behind_append q w a b h k (l q)
stands-append p w (In n r) a b h k l = (h.0, safe_append w a b h.1 k)

pub stands-drop : (p : ℕ) (w : Member) (m : Standing) (a : List Meaning) (f : Meaning) (b : List Meaning) → Stands p w m (a ++ (f ∷ b)) → Stands p w m (a ++ b)
stands-drop p w Out a f b h = tt
stands-drop p w (Asked r q) a f b h = behind_drop q w a f b h
stands-drop p w (In n r) a f b h = (h.0, safe_drop w a f b h.1)

-- a frame that is no welcomes opens nothing
pub no_welcome : (q : ℕ) (w : Member) (f : Meaning) (fs : List Meaning) → in_of f ≡ [] → Opens q w f fs
no_welcome q w f fs e v b d = let c : [] ≡ q ∷ [] = sym e ∙ ap in_of d in let z : ◌≡◌ {A = ℕ} 0 1 = cc in let o : ⊥ = omega arith in absurd o

nil_left : (a b : List ℕ) → a ++ b ≡ [] → a ≡ []
nil_left [] b e = refl
nil_left (x ∷ a) b e = cc

nil_right : (a b : List ℕ) → a ++ b ≡ [] → b ≡ []
nil_right [] b e = e
nil_right (x ∷ a) b e = cc

pub behind_quiet : (q : ℕ) (w : Member) (ts : List Meaning) → ins ts ≡ [] → Behind q w ts
behind_quiet q w [] e = tt
behind_quiet q w (f ∷ ts) e = (no_welcome q w f ts (nil_left (in_of f) (ins ts) e), behind_quiet q w ts (nil_right (in_of f) (ins ts) e))

-- one frame more that is no welcomes and harmless
pub stands_put : (p : ℕ) (w : Member) (m : Standing) (a : List Meaning) (f : Meaning) → in_of f ≡ [] → Harmless w f → Stands p w m a → Stands p w m (a ++ (f ∷ []))
stands_put p w m a f e k h = stands-append p w m a (f ∷ []) h (k, tt) (λ q. (no_welcome q w f [] e, tt))

-- messages are safe
abbrev pub AllMessages : List Meaning → Type 0
AllMessages [] = Unit {0}
AllMessages (m ∷ ms) = (is_message m ≡ true) × AllMessages ms

message_harmless : (w : Member) (m : Meaning) → is_message m ≡ true → Harmless w m × (in_of m ≡ [])
message_harmless w (rejects f y) e = (tt, refl)
message_harmless w (dead x) e = absurd (both_ways false refl e)
message_harmless w (changes c) e = (tt, refl)
message_harmless w (applies q a) e = (tt, refl)
message_harmless w (welcomes q v b) e = absurd (both_ways false refl e)
message_harmless w (reports b) e = absurd (both_ways false refl e)
message_harmless w (carries h o) e = (tt, refl)
message_harmless w (garbled x) e = (tt, refl)

pub ins-messages : (ms : List Meaning) → AllMessages ms → ins ms ≡ []
ins-messages [] h = refl
ins-messages (m ∷ ms) h = ap (λ x. x ++ ins ms) (message_harmless (member_of 0 0 0) m h.0).1 ∙ ins-messages ms h.1

safe_messages : (w : Member) (ms : List Meaning) → AllMessages ms → Safe w ms
safe_messages w [] h = tt
safe_messages w (m ∷ ms) h = ((message_harmless w m h.0).0, safe_messages w ms h.1)

pub stands-messages : (p : ℕ) (w : Member) (m : Standing) (a ms : List Meaning) → AllMessages ms → Stands p w m a → Stands p w m (a ++ ms)
stands-messages p w m a ms k h = stands-append p w m a ms h (safe_messages w ms k) (λ q. behind_quiet q w ms (ins-messages ms k))

-- no welcome that waits answers q, if all their numbers lie below one that q is not below
pub behind_under : (q k : ℕ) (w : Member) (fs : List Meaning) (a b : List ℕ) → k ≤ q → Asc (ins fs ++ (a ++ (k ∷ b))) → Behind q w fs
behind_under q k w [] a b l h = tt
behind_under q k w (f ∷ fs) a b l h = (λ v u e. absurd (no v u e), behind_under q k w fs a b l (asc_drop [] (in_of f) (ins fs ++ (a ++ (k ∷ b))) flat))
  where
    flat : Asc (in_of f ++ (ins fs ++ (a ++ (k ∷ b))))
    flat = subst Asc (append_assoc (in_of f) (ins fs) (a ++ (k ∷ b))) h

    no : (v : Member) (u : Listing) → f ≡ welcomes q v u → ⊥
    no v u e =
        let s : Asc (q ∷ (ins fs ++ (a ++ (k ∷ b)))) = subst (λ g. Asc (in_of g ++ (ins fs ++ (a ++ (k ∷ b))))) e flat in
        let s2 : Asc (q ∷ ((ins fs ++ a) ++ (k ∷ b))) = subst (λ m. Asc (q ∷ m)) (sym (append_assoc (ins fs) a (k ∷ b))) s in
        let z : q < k = above_at q k (ins fs ++ a) b s2.0 in
        omega arith

-- the end reads the oldest
pub stands_receive : (p : ℕ) (w : Member) (m : Standing) (v : Listing) (f : Meaning) (fs : List Meaning) → Stands p w m (f ∷ fs) → Stands p w (reads p m v f).standing fs
stands_receive p w Out v f fs h = tt
stands_receive p w (Asked r q) v (rejects f y) fs h = h.1
stands_receive p w (Asked r q) v (dead x) fs h = h.1
stands_receive p w (Asked r q) v (changes c) fs h = h.1
stands_receive p w (Asked r q) v (applies x a) fs h = h.1
stands_receive p w (Asked r q) v (welcomes x u b) fs h = cond_both (answers p r q x u) _ _ (λ (e : Place). Stands p w e.standing fs) yes' (λ e. h.1)
  where
    yes' : answers p r q x u ≡ true → (w ≡ member_of u.number u.role p) × Safe w fs
    yes' e =
        let a = and_parts _ _ e in
        let b2 = and_parts _ _ a.1 in
        let here : u.port ≡ p = eqb-true _ _ b2.0 in
        let k = h.0 u b (ap (λ n. welcomes n u b) (eqb-true _ _ a.0)) in
        let whole : u ≡ member_of u.number u.role p = λ i. record { number = u.number; role = u.role; port = here i } in
        (sym k.0 ∙ whole, k.1)
stands_receive p w (Asked r q) v (reports b) fs h = h.1
stands_receive p w (Asked r q) v (carries x o) fs h = h.1
stands_receive p w (Asked r q) v (garbled e) fs h = h.1
stands_receive p w (In n r) v (rejects f y) fs h = (h.0, h.1.1)
stands_receive p w (In n r) v (dead x) fs h = cond_both (eqb x.number n && eqb x.role r) _ _ (λ (e : Place). Stands p w e.standing fs) (λ e. tt) (λ e. (h.0, h.1.1))
stands_receive p w (In n r) v (changes c) fs h = (h.0, h.1.1)
stands_receive p w (In n r) v (applies x a) fs h = (h.0, h.1.1)
stands_receive p w (In n r) v (welcomes x u b) fs h = (h.0, h.1.1)
stands_receive p w (In n r) v (reports b) fs h = cond_both (has (member_of n r p) b) _ _ (λ (e : Place). Stands p w e.standing fs) (λ e. (h.0, h.1.1)) (λ e. tt)
stands_receive p w (In n r) v (carries x o) fs h = (h.0, h.1.1)
stands_receive p w (In n r) v (garbled e) fs h = (h.0, h.1.1)

-- an end that is in stays so over a harmless frame
stays : (p n r : ℕ) (v : Listing) (f : Meaning) → Harmless (member_of n r p) f → (reads p (In n r) v f).standing ≡ In n r
stays p n r v (rejects f y) h = refl
stays p n r v (dead x) h = ap (λ (e : Place). e.standing) (cond-false (eqb x.number n && eqb x.role r) _ _ h)
stays p n r v (changes c) h = refl
stays p n r v (applies x a) h = refl
stays p n r v (welcomes x u b) h = refl
stays p n r v (reports b) h = ap (λ (e : Place). e.standing) (cond-true (has (member_of n r p) b) _ _ h)
stays p n r v (carries x o) h = refl
stays p n r v (garbled e) h = refl

pub stays_all : (p n r : ℕ) (e : Place) (fs : List Meaning) → e.standing ≡ In n r → Safe (member_of n r p) fs → (reading p e fs).standing ≡ In n r
stays_all p n r e [] i h = i
stays_all p n r e (f ∷ fs) i h =
    stays_all p n r (reads p e.standing e.view f) fs (ap (λ m. (reads p m e.view f).standing) i ∙ stays p n r e.view f h.0) h.1

-- asked: the last number used; in: no registration waits (an end that is in may not register)
abbrev pub Tied : Standing → List ℕ → ℕ → Type 0
Tied Out ys n = Unit {0}
Tied (Asked r q) ys n = suc q ≡ n
Tied (In m r) ys n = ys ≡ []

pub tied_receive : (p : ℕ) (m : Standing) (v : Listing) (f : Meaning) (xs ys : List ℕ) (n : ℕ) → Chain (in_of f ++ xs) ys n → Tied m ys n → Tied (reads p m v f).standing ys n
tied_receive p Out v f xs ys n c h = tt
tied_receive p (Asked r q) v (rejects f y) xs ys n c h = h
tied_receive p (Asked r q) v (dead x) xs ys n c h = h
tied_receive p (Asked r q) v (changes k) xs ys n c h = h
tied_receive p (Asked r q) v (applies x a) xs ys n c h = h
tied_receive p (Asked r q) v (welcomes x u b) xs ys n c h =
    cond_both (answers p r q x u) _ _ (λ (e : Place). Tied e.standing ys n)
    (λ e. chain_squeeze x xs ys n (ap suc (eqb-true x q (and_parts _ _ e).0) ∙ h) c)
    (λ e. h)
tied_receive p (Asked r q) v (reports b) xs ys n c h = h
tied_receive p (Asked r q) v (carries x o) xs ys n c h = h
tied_receive p (Asked r q) v (garbled e) xs ys n c h = h
tied_receive p (In k r) v (rejects f y) xs ys n c h = h
tied_receive p (In k r) v (dead x) xs ys n c h = cond_both (eqb x.number k && eqb x.role r) _ _ (λ (e : Place). Tied e.standing ys n) (λ e. tt) (λ e. h)
tied_receive p (In k r) v (changes l) xs ys n c h = h
tied_receive p (In k r) v (applies x a) xs ys n c h = h
tied_receive p (In k r) v (welcomes x u b) xs ys n c h = h
tied_receive p (In k r) v (reports b) xs ys n c h = cond_both (has (member_of k r p) b) _ _ (λ (e : Place). Tied e.standing ys n) (λ e. h) (λ e. tt)
tied_receive p (In k r) v (carries x o) xs ys n c h = h
tied_receive p (In k r) v (garbled e) xs ys n c h = h

pub chain_receive : (f : Meaning) (fs : List Meaning) (ys : List ℕ) (n : ℕ) → Chain (ins (f ∷ fs)) ys n → Chain (ins fs) ys n
chain_receive f fs ys n c = asc_drop [] (in_of f) (ins fs ++ (ys ++ (n ∷ []))) (subst Asc (append_assoc (in_of f) (ins fs) (ys ++ (n ∷ []))) c)

-- so it is once all is read
pub tied_all : (p : ℕ) (e : Place) (fs : List Meaning) (ys : List ℕ) (n : ℕ) → Chain (ins fs) ys n → Tied e.standing ys n → Tied (reading p e fs).standing ys n
tied_all p e [] ys n c h = h
tied_all p e (f ∷ fs) ys n c h =
    tied_all p (reads p e.standing e.view f) fs ys n (chain_receive f fs ys n c) (tied_receive p e.standing e.view f (ins fs) ys n c h)
