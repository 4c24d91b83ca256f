-- What the registrar tells a port, apart from a welcome. Assumes nothing.
use Rattle.std.proofs.Common.{◌≡◌, ℕ, Bool, true, false, ◌&&◌, ◌||◌, eqb, List, [], ◌∷◌, ◌++◌, sym, refl, ap, ◌∙◌, subst}
use Rattle.std.proofs.lemmas.Bool.{both_ways, eqb-true, and_parts, cond_both, cond-true}
use Rattle.words.specs.declared.member.Member.{Member}
use Rattle.words.specs.Records.{id_of, member_of, module_of, valid_member}
use Rattle.book.specs.declared.change.Change.{Change}
use Rattle.book.specs.declared.change.Change.TheVariants.{Starting, Stopping, Enter, Withdraw}
use Rattle.book.specs.Matching.{some}
use Rattle.rules.specs.declared.standing.Standing.{Standing}
use Rattle.rules.specs.Listings.{Listing, has, standing, seated_at, accepts, changed, applied, Whole}
use Rattle.rules.specs.Meanings.{Meaning, rejects, dead, changes, is_full}
use Rattle.rules.specs.Ends.{Place, place, reads, reading}
use Rattle.rules.specs.Registrar.{Deed, spread, one_if, list_full, tell_dead, change_deed, booked, told}
use Rattle.rules.proofs.Books.{changed_whole, seated_by}
use Rattle.rules.proofs.Queries.{in_of, ins}
use Rattle.rules.proofs.Waits.{Harmless, Safe}
use Rattle.rules.proofs.Agree.{Agrees, Follows, agrees_follow, follows_rule, follows_withdrawal, follows_stopping, follows_starting, agrees_dead, reads_rejection}

-- ts tells the port p of the book's change from b to d, with no full report
pub record Telling (p : ℕ) (b d : Listing) (ts : List Meaning) : Type 0 where
  pub sound : Whole d
  pub quiet : ins ts ≡ []
  pub partial : some is_full ts ≡ false
  pub was : (v : Member) → has v d ≡ true → v.port ≡ p → has v b ≡ true
  pub safe : (v : Member) → has v d ≡ true → v.port ≡ p → Safe v ts
  pub agrees : (x : Place) → Agrees p b x → Agrees p d (reading p x ts)

pub telling_nothing : (p : ℕ) (b : Listing) → Whole b → Telling p b b []
telling_nothing p b s = record { sound = s; quiet = refl; partial = refl; was = λ v h l. h; safe = λ v h l. tt; agrees = λ x a. a }

-- a frame back to one port
pub telling_back : (p : ℕ) (b : Listing) (q : ℕ) (f : Meaning) → Whole b → in_of f ≡ [] → is_full f ≡ false →
    ((v : Member) → has v b ≡ true → v.port ≡ q → Harmless v f) → ((m : Standing) (v : Listing) → Agrees p b (place m v) → Agrees p b (reads p m v f)) →
    Telling p b b (one_if (eqb p q) f)
telling_back p b q f s i u k a = cond_both (eqb p q) (f ∷ []) [] (Telling p b b) yes' (λ z. telling_nothing p b s)
  where
    yes' : eqb p q ≡ true → Telling p b b (f ∷ [])
    yes' z = record {
      sound = s;
      quiet = ap (λ x. x ++ []) i;
      partial = ap (λ x. x || false) u;
      was = λ v h l. h;
      safe = λ v h l. (k v h (l ∙ eqb-true p q z), tt);
      agrees = λ x. a x.standing x.view;
    }

-- a frame to every member
pub telling_spread : (p : ℕ) (b d : Listing) (f : Meaning) → Whole d → in_of f ≡ [] → is_full f ≡ false → ((v : Member) → Harmless v f) → Follows p b d f →
    Telling p b d (one_if (seated_at p d) f)
telling_spread p b d f s i u k g = cond_both (seated_at p d) (f ∷ []) [] (Telling p b d) yes' no'
  where
    yes' : seated_at p d ≡ true → Telling p b d (f ∷ [])
    yes' z = record {
      sound = s;
      quiet = ap (λ x. x ++ []) i;
      partial = ap (λ x. x || false) u;
      was = λ v h l.
          let e : v ≡ member_of v.number v.role p = λ j. record { number = v.number; role = v.role; port = l j } in
          subst (λ (x : Member). has x b ≡ true) (sym e) (g.was v.number v.role (subst (λ (x : Member). has x d ≡ true) e h));
      safe = λ v h l. (k v, tt);
      agrees = λ x a. agrees_follow p b d f x g a;
    }

    no' : seated_at p d ≡ false → Telling p b d []
    no' z = record {
      sound = s;
      quiet = refl;
      partial = refl;
      was = λ v h l. absurd (both_ways _ z (seated_by d s v p h l));
      safe = λ v h l. tt;
      agrees = λ x a n r m h. absurd (both_ways _ z (seated_by d s (member_of n r p) p h refl));
    }

-- you are dead goes to whom the book does not have
dead_harmless : (b : Listing) (w : Member) → has w b ≡ false → (v : Member) → has v b ≡ true → v.port ≡ w.port → Harmless v (dead (module_of w))
dead_harmless b w z v h l = go (eqb w.number v.number && eqb w.role v.role) refl
  where
    go : (t : Bool) → (eqb w.number v.number && eqb w.role v.role) ≡ t → t ≡ false
    go false k = refl
    go true k =
        let a = and_parts _ _ k in
        let x = eqb-true w.number v.number a.0 in
        let y = eqb-true w.role v.role a.1 in
        let e : w ≡ v = λ j. record { number = x j; role = y j; port = sym l j } in
        absurd (both_ways _ z (ap (λ (u : Member). has u b) e ∙ h))

abbrev pub Tells : ℕ → Listing → Meaning → Deed → Type 0
Tells p b m d = Telling p b (booked b d) (told d m p)

tells_dead : (p : ℕ) (b : Listing) (m : Meaning) (t : ℕ) (w : Member) → Whole b → has w b ≡ false → Tells p b m (tell_dead t w)
tells_dead p b m t w s z = telling_back p b w.port (dead (module_of w)) s refl refl (dead_harmless b w z) (λ x v. agrees_dead p b x v (module_of w))

-- the change is taken in and forwarded
tells_change : (p : ℕ) (b : Listing) (c : Change) → Whole b → accepts b c ≡ true → Follows p b (changed b c) (changes c) → Tells p b (changes c) (spread (applied b c))
tells_change p b c s t g =
    subst (λ (d : Listing). Telling p b d (one_if (seated_at p d) (changes c))) (sym (cond-true (accepts b c) _ _ t))
    (telling_spread p b (changed b c) (changes c) (changed_whole b c s t) refl refl (λ v. tt) g)

pub tells_asked : (p : ℕ) (b : Listing) (t : ℕ) (c : Change) → Whole b → Tells p b (changes c) (change_deed b t c)
tells_asked p b t (Starting w) s = telling_nothing p b s
tells_asked p b t (Stopping w) s =
    cond_both (has w b) _ _ (Tells p b (changes (Stopping w)))
    (λ h. tells_change p b (Stopping w) s h (follows_stopping p b w s h))
    (λ h. telling_nothing p b s)
tells_asked p b t (Enter w u) s =
    cond_both (has w b) _ _ (Tells p b (changes (Enter w u)))
    (λ h. cond_both (accepts b (Enter w u)) _ _ (Tells p b (changes (Enter w u)))
    (λ z. tells_change p b (Enter w u) s z (follows_rule p b w u z))
    (λ z. cond_both (standing u b) _ _ (Tells p b (changes (Enter w u)))
    (λ l. telling_nothing p b s)
    (λ l. telling_back p b w.port (rejects (id_of (module_of w)) (list_full u.kind)) s refl refl (λ v x y. tt)
    (λ m v. subst (Agrees p b) (sym (reads_rejection p m v (id_of (module_of w)) (list_full u.kind)))))))
    (λ h. tells_dead p b (changes (Enter w u)) t w s h)
tells_asked p b t (Withdraw w u) s =
    cond_both (has w b) _ _ (Tells p b (changes (Withdraw w u)))
    (λ h. cond_both (accepts b (Withdraw w u)) _ _ (Tells p b (changes (Withdraw w u)))
    (λ z. tells_change p b (Withdraw w u) s z (follows_withdrawal p b w u z))
    (λ z. telling_nothing p b s))
    (λ h. tells_dead p b (changes (Withdraw w u)) t w s h)

-- what the other ports are told of a newcomer
pub tells_starting : (p : ℕ) (b : Listing) (w : Member) → Whole b → valid_member w ≡ true → eqb p w.port ≡ false → Telling p b (changed b (Starting w)) (one_if (seated_at p (changed b (Starting w))) (changes (Starting w)))
tells_starting p b w s h away =
    telling_spread p b (changed b (Starting w)) (changes (Starting w)) (changed_whole b (Starting w) s h) refl refl (λ v. tt) (follows_starting p b w s h away)
