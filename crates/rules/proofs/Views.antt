-- The invariant of one port, call by call, and what it gives. Assumes nothing.
use Rattle.std.proofs.Common.{◌≡◌, ℕ, suc, ◌<◌, Bool, true, false, cond, not, ◌||◌, eqb, ◌⊎◌, List, [], ◌∷◌, ◌++◌, sym, refl, ap, ◌∙◌, subst, inl, inr, append-nil, arith}
use Rattle.std.proofs.lemmas.Bool.{both_ways, eqb-true, eq-eqb, cond-true, cond-false}
use Rattle.words.specs.declared.applicant.Applicant.{Applicant}
use Rattle.words.specs.declared.member.Member.{Member}
use Rattle.words.specs.Records.{applicant_of, member_of, valid_member}
use Rattle.book.specs.declared.change.Change.TheVariants.{Starting}
use Rattle.book.specs.Matching.{some}
use Rattle.rules.specs.declared.standing.Standing.{Standing}
use Rattle.rules.specs.declared.standing.Standing.TheVariants.{Out, Asked, In}
use Rattle.rules.specs.Listings.{Listing, blank, has, seated_at, changed, Whole}
use Rattle.rules.specs.Meanings.{Meaning, rejects, dead, changes, applies, welcomes, reports, carries, garbled, is_full, is_message}
use Rattle.rules.specs.Ends.{Place, place, gone, reads, reading}
use Rattle.rules.specs.Registrar.{one_if, newcomer, deed, booked, told}
use Rattle.rules.specs.Promises.{Gives}
use Rattle.rules.proofs.Books.{changed_whole, started_was}
use Rattle.rules.proofs.Queries.{asc_drop, above_at, gather-++, in_of, reg_of, ins, regs, Chain, chain_less_in, chain_less_reg, chain_register, chain_move}
use Rattle.rules.proofs.Waits.{Safe, Behind, Stands, AllMessages, ins-messages, stands_put, stands-messages, stands-drop, stands-append, behind_under, behind_quiet, behind_append, stands_receive, stays_all, Tied, tied_receive, tied_all, chain_receive}
use Rattle.rules.proofs.Serving.{Telling, telling_nothing, tells_asked, tells_starting}
use Rattle.rules.proofs.Agree.{Agrees, reading-++, reading-messages, reading-without, agrees_report, Inside, agrees_welcome}

-- the port p: the book, what waits at the registrar, what waits at p, the end and its next query number, and whether p is clean
pub record Inv (p : ℕ) (b : Listing) (i w : List Meaning) (e : Place) (n : ℕ) (c : Bool) : Type 0 where
  pub sound : Whole b
  pub chain : Chain (ins w) (regs p i) n
  pub tied : Tied e.standing (regs p i) n
  pub stand : (v : Member) → has v b ≡ true → v.port ≡ p → Stands p v e.standing w
  pub agree : c ≡ true → Agrees p b (reading p e w)

snoc_not_nil : (a : List ℕ) (n : ℕ) → a ++ (n ∷ []) ≡ [] → ⊥
snoc_not_nil [] n e = let z : ◌≡◌ {A = ℕ} 0 1 = cc in omega arith
snoc_not_nil (x ∷ a) n e = let z : ◌≡◌ {A = ℕ} 0 1 = cc in omega arith

cons_not_nil : (n : ℕ) (a : List ℕ) → n ∷ a ≡ [] → ⊥
cons_not_nil n a e = let z : ◌≡◌ {A = ℕ} 0 1 = cc in omega arith

out_not_in : (n r : ℕ) → Out ≡ In n r → ⊥
out_not_in n r e = let z : ◌≡◌ {A = ℕ} 0 1 = cc in omega arith

reading_out : (p : ℕ) (v : Listing) (w : List Meaning) → reading p (place Out v) w ≡ place Out v
reading_out p v [] = refl
reading_out p v (f ∷ w) = reading_out p v w

ins_more : (w ts : List Meaning) → ins ts ≡ [] → ins (w ++ ts) ≡ ins w
ins_more w ts e = gather-++ in_of w ts ∙ ap (λ m. ins w ++ m) e ∙ append-nil (ins w)

tied_less : (m : Standing) (x y z : List ℕ) (n : ℕ) → Tied m (x ++ (y ++ z)) n → Tied m (x ++ z) n
tied_less Out x y z n h = tt
tied_less (Asked r q) x y z n h = h
tied_less (In k r) [] [] z n h = h
tied_less (In k r) [] (a ∷ y) z n h = absurd (cons_not_nil a (y ++ z) h)
tied_less (In k r) (a ∷ x) y z n h = absurd (cons_not_nil a (x ++ (y ++ z)) h)

not_inside : (m : Standing) (q : ℕ) (ys : List ℕ) (n : ℕ) → Tied m (q ∷ ys) n → Inside m → ⊥
not_inside Out q ys n h k = k
not_inside (Asked r x) q ys n h k = k
not_inside (In x r) q ys n h k = cons_not_nil q ys h

-- only a lost message leaves a port clean
lose_agrees : (p : ℕ) (b : Listing) (e : Place) (a : List Meaning) (f : Meaning) (d : List Meaning) (c t : Bool) → is_message f ≡ t
    → (c ≡ true → Agrees p b (reading p e (a ++ (f ∷ d)))) → cond (not t) false c ≡ true → Agrees p b (reading p e (a ++ d))
lose_agrees p b e a f d c true t g k = subst (Agrees p b) (reading-without p e a f d t) (g k)
lose_agrees p b e a f d c false t g k = absurd (both_ways false refl k)

-- the newcomer of a registration may stand
abbrev pub Seats : Meaning → ℕ → Type 0
Seats (rejects f y) k = Unit {0}
Seats (dead m) k = Unit {0}
Seats (changes x) k = Unit {0}
Seats (applies q a) k = valid_member (newcomer a k) ≡ true
Seats (welcomes q m v) k = Unit {0}
Seats (reports v) k = Unit {0}
Seats (carries x o) k = Unit {0}
Seats (garbled x) k = Unit {0}

module _ (p : ℕ) (b : Listing) (i w : List Meaning) (e : Place) (n : ℕ) (c : Bool) (h : Inv p b i w e n c) where
  -- a request that is no registration of p
  pub inv_requests : (ts : List Meaning) → regs p ts ≡ [] → Inv p b (i ++ ts) w e n c
  inv_requests ts z =
      let same_regs : regs p (i ++ ts) ≡ regs p i = gather-++ (reg_of p) i ts ∙ ap (λ m. regs p i ++ m) z ∙ append-nil (regs p i) in
      record {
        sound = h.sound;
        chain = subst (λ y. Chain (ins w) y n) (sym same_regs) h.chain;
        tied = subst (λ y. Tied e.standing y n) (sym same_regs) h.tied;
        stand = h.stand;
        agree = h.agree;
      }

  pub inv_request : (f : Meaning) → reg_of p f ≡ [] → Inv p b (i ++ (f ∷ [])) w e n c
  inv_request f z = inv_requests (f ∷ []) (ap (λ m. m ++ []) z)

  -- query numbers that rise are needed here: no welcome that waits has the new one
  pub inv_register : (r : ℕ) → Inv p b (i ++ (applies n (applicant_of r p) ∷ [])) w (place (Asked r n) blank) (suc n) c
  inv_register r = record {
    sound = h.sound;
    chain = now_chain;
    tied = refl;
    stand = λ v k l. behind_under n n v w (regs p i) [] (omega arith) h.chain;
    agree = λ z m k y g. absurd (snoc_not_nil (regs p i) n (sym one_more ∙ subst (λ (x : Standing). Tied x (regs p (i ++ (applies n (applicant_of r p) ∷ []))) (suc n)) y (tied_all p (place (Asked r n) blank) w (regs p (i ++ (applies n (applicant_of r p) ∷ []))) (suc n) now_chain refl)));
  }
    where
      one_more : regs p (i ++ (applies n (applicant_of r p) ∷ [])) ≡ regs p i ++ (n ∷ [])
      one_more = gather-++ (reg_of p) i (applies n (applicant_of r p) ∷ []) ∙ ap (λ x. regs p i ++ (x ++ [])) (cond-true (eqb p p) (n ∷ []) [] (eq-eqb p p refl))

      now_chain : Chain (ins w) (regs p (i ++ (applies n (applicant_of r p) ∷ []))) (suc n)
      now_chain = subst (λ y. Chain (ins w) y (suc n)) (sym one_more) (chain_register (ins w) (regs p i) n h.chain)

  pub inv_out : Inv p b i w gone n c
  inv_out = record {
    sound = h.sound;
    chain = h.chain;
    tied = tt;
    stand = λ v k l. tt;
    agree = λ z m r y k. absurd (out_not_in m r (sym (ap (λ (x : Place). x.standing) (reading_out p blank w)) ∙ y));
  }

  pub inv_messages : (ms : List Meaning) → AllMessages ms → Inv p b i (w ++ ms) e n c
  inv_messages ms k = record {
    sound = h.sound;
    chain = subst (λ y. Chain y (regs p i) n) (sym (ins_more w ms (ins-messages ms k))) h.chain;
    tied = h.tied;
    stand = λ v x l. stands-messages p v e.standing w ms k (h.stand v x l);
    agree = λ z. subst (Agrees p b) (sym (reading-++ p e w ms ∙ reading-messages p (reading p e w) ms k)) (h.agree z);
  }

  pub inv_report : Inv p b i (w ++ (reports b ∷ [])) e n true
  inv_report = record {
    sound = h.sound;
    chain = subst (λ y. Chain y (regs p i) n) (sym (ins_more w (reports b ∷ []) refl)) h.chain;
    tied = h.tied;
    stand = λ v k l. stands_put p v e.standing w (reports b) refl k (h.stand v k l);
    agree = λ k. subst (Agrees p b) (sym (reading-++ p e w (reports b ∷ []))) (agrees_report p b (reading p e w).standing (reading p e w).view);
  }

  pub inv_receive : (f : Meaning) (fs : List Meaning) → w ≡ f ∷ fs → Inv p b i fs (reads p e.standing e.view f) n c
  inv_receive f fs z =
      let g : Inv p b i (f ∷ fs) e n c = subst (λ x. Inv p b i x e n c) z h in
      record {
        sound = h.sound;
        chain = chain_receive f fs (regs p i) n g.chain;
        tied = tied_receive p e.standing e.view f (ins fs) (regs p i) n g.chain h.tied;
        stand = λ v k l. stands_receive p v e.standing e.view f fs (g.stand v k l);
        agree = g.agree;
      }

  pub inv_lose : (a : List Meaning) (f : Meaning) (d : List Meaning) → w ≡ a ++ (f ∷ d) → Inv p b i (a ++ d) e n (cond (not (is_message f)) false c)
  inv_lose a f d z =
      let g : Inv p b i (a ++ (f ∷ d)) e n c = subst (λ x. Inv p b i x e n c) z h in
      record {
        sound = h.sound;
        chain = subst (λ y. Chain y (regs p i) n) (sym (gather-++ in_of a d)) (chain_less_in (ins a) (in_of f) (ins d) (regs p i) n (subst (λ y. Chain y (regs p i) n) (gather-++ in_of a (f ∷ d)) g.chain));
        tied = h.tied;
        stand = λ v k l. stands-drop p v e.standing a f d (g.stand v k l);
        agree = lose_agrees p b e a f d c (is_message f) refl g.agree;
      }

  pub inv_miss : (a : List Meaning) (f : Meaning) (d : List Meaning) → i ≡ a ++ (f ∷ d) → Inv p b (a ++ d) w e n c
  inv_miss a f d z =
      let g : Inv p b (a ++ (f ∷ d)) w e n c = subst (λ x. Inv p b x w e n c) z h in
      record {
        sound = h.sound;
        chain = subst (λ y. Chain (ins w) y n) (sym (gather-++ (reg_of p) a d)) (chain_less_reg (ins w) (regs p a) (reg_of p f) (regs p d) n (subst (λ y. Chain (ins w) y n) (gather-++ (reg_of p) a (f ∷ d)) g.chain));
        tied = subst (λ y. Tied e.standing y n) (sym (gather-++ (reg_of p) a d)) (tied_less e.standing (regs p a) (reg_of p f) (regs p d) n (subst (λ y. Tied e.standing y n) (gather-++ (reg_of p) a (f ∷ d)) g.tied));
        stand = h.stand;
        agree = h.agree;
      }

  -- a frame served that is no registration of p
  inv_told : (f : Meaning) (fs : List Meaning) (d : Listing) (ts : List Meaning) (left : Bool) → i ≡ f ∷ fs → reg_of p f ≡ [] → Telling p b d ts →
      Inv p d fs (cond left w (w ++ ts)) e n (cond left false (some is_full ts || c))
  inv_told f fs d ts left z r0 t = go left
    where
      less : regs p i ≡ regs p fs
      less = ap (regs p) z ∙ ap (λ x. x ++ regs p fs) r0

      go : (v : Bool) → Inv p d fs (cond v w (w ++ ts)) e n (cond v false (some is_full ts || c))
      go true = record {
        sound = t.sound;
        chain = subst (λ y. Chain (ins w) y n) less h.chain;
        tied = subst (λ y. Tied e.standing y n) less h.tied;
        stand = λ v k l. h.stand v (t.was v k l) l;
        agree = λ k. absurd (both_ways false refl k);
      }
      go false = record {
        sound = t.sound;
        chain = subst (λ x. Chain x (regs p fs) n) (sym (ins_more w ts t.quiet)) (subst (λ y. Chain (ins w) y n) less h.chain);
        tied = subst (λ y. Tied e.standing y n) less h.tied;
        stand = λ v k l. stands-append p v e.standing w ts (h.stand v (t.was v k l) l) (t.safe v k l) (λ q. behind_quiet q v ts t.quiet);
        agree = λ k. subst (Agrees p d) (sym (reading-++ p e w ts)) (t.agrees (reading p e w) (h.agree (sym (ap (λ x. x || c) t.partial) ∙ k)));
      }

  -- the end's own registration
  inv_own : (q : ℕ) (new : Member) (a : Applicant) (fs : List Meaning) (left : Bool) → i ≡ applies q a ∷ fs → valid_member new ≡ true → new.port ≡ a.port → eqb p a.port ≡ true →
      Inv p (changed b (Starting new)) fs (cond left w (w ++ (welcomes q new (changed b (Starting new)) ∷ []))) e n (cond left false true)
  inv_own q new a fs left z ok same here = go left
    where
      d : Listing
      d = changed b (Starting new)

      more : regs p i ≡ q ∷ regs p fs
      more = ap (regs p) z ∙ ap (λ y. y ++ regs p fs) (cond-true (eqb p a.port) (q ∷ []) [] here)

      chained : Chain (ins w) (q ∷ regs p fs) n
      chained = subst (λ y. Chain (ins w) y n) more h.chain

      was_tied : Tied e.standing (q ∷ regs p fs) n
      was_tied = subst (λ y. Tied e.standing y n) more h.tied

      only : (v : Member) → has v d ≡ true → v.port ≡ p → v ≡ new
      only v k l = go1 (started_was b new v h.sound ok k)
        where
          go1 : (v ≡ new) ⊎ ((has v b ≡ true) × (v.number ≡ new.number → ⊥) × (v.port ≡ new.port → ⊥)) → v ≡ new
          go1 (inl y) = y
          go1 (inr y) = absurd (y.2 (l ∙ eqb-true p a.port here ∙ sym same))

      behind : (m : Standing) → Tied m (q ∷ regs p fs) n → (v : Member) → v ≡ new → (ts : List Meaning) → Safe v ts → ((y : ℕ) → Behind y v ts) → Stands p v m (w ++ ts)
      behind Out t v o ts f g = tt
      behind (Asked y j) t v o ts f g =
          let low : q < n = above_at q n (regs p fs) [] (asc_drop [] (ins w) (q ∷ (regs p fs ++ (n ∷ []))) chained).0 in
          behind_append j v w ts (behind_under j q v w [] (regs p fs ++ (n ∷ [])) (omega arith) chained) f (g j)
      behind (In y j) t v o ts f g = absurd (cons_not_nil q (regs p fs) t)

      opens : (v : Member) → v ≡ new → (y : ℕ) → Behind y v (welcomes q new d ∷ [])
      opens v o y = (λ u x e2. let s2 : new ≡ u = cc in (sym s2 ∙ sym o, tt), tt)

      go : (v : Bool) → Inv p d fs (cond v w (w ++ (welcomes q new d ∷ []))) e n (cond v false true)
      go true = record {
        sound = changed_whole b (Starting new) h.sound ok;
        chain = chain_less_reg (ins w) [] (q ∷ []) (regs p fs) n chained;
        tied = tied_less e.standing [] (q ∷ []) (regs p fs) n was_tied;
        stand = λ v k l. subst (Stands p v e.standing) (append-nil w) (behind e.standing was_tied v (only v k l) [] tt (λ y. tt));
        agree = λ k. absurd (both_ways false refl k);
      }
      go false = record {
        sound = changed_whole b (Starting new) h.sound ok;
        chain = subst (λ y. Chain y (regs p fs) n) (sym (gather-++ in_of w (welcomes q new d ∷ []))) (chain_move (ins w) (regs p fs) q n chained);
        tied = tied_less e.standing [] (q ∷ []) (regs p fs) n was_tied;
        stand = λ v k l. behind e.standing was_tied v (only v k l) (welcomes q new d ∷ []) (tt, tt) (opens v (only v k l));
        agree = λ k. subst (Agrees p d) (sym (reading-++ p e w (welcomes q new d ∷ [])))
            (agrees_welcome p d (reading p e w).standing (reading p e w).view q new (not_inside _ q (regs p fs) n (tied_all p e w (q ∷ regs p fs) n chained was_tied)));
      }

  pub inv_serve : (t : ℕ) (f : Meaning) (fs : List Meaning) (k : ℕ) (left : Bool) → i ≡ f ∷ fs → Seats f k →
      Inv p (booked b (deed b t f k)) fs (cond left w (w ++ told (deed b t f k) f p)) e n (cond left false (some is_full (told (deed b t f k) f p) || c))
  inv_serve t (rejects x y) fs k left z m = inv_told (rejects x y) fs _ _ left z refl (telling_nothing p b h.sound)
  inv_serve t (dead x) fs k left z m = inv_told (dead x) fs _ _ left z refl (telling_nothing p b h.sound)
  inv_serve t (changes x) fs k left z m = inv_told (changes x) fs _ _ left z refl (tells_asked p b t x h.sound)
  inv_serve t (applies q a) fs k left z m =
      subst (λ (d : Listing). Inv p d fs (cond left w (w ++ cond (eqb p a.port) (welcomes q new d ∷ []) (one_if (seated_at p d) (changes (Starting new))))) e n
      (cond left false (some is_full (cond (eqb p a.port) (welcomes q new d ∷ []) (one_if (seated_at p d) (changes (Starting new)))) || c)))
      (sym (cond-true (valid_member new) _ _ m)) (go (eqb p a.port) refl)
    where
      new : Member
      new = newcomer a k

      d : Listing
      d = changed b (Starting new)

      go : (v : Bool) → eqb p a.port ≡ v →
          Inv p d fs (cond left w (w ++ cond v (welcomes q new d ∷ []) (one_if (seated_at p d) (changes (Starting new))))) e n (cond left false (some is_full (cond v (welcomes q new d ∷ []) (one_if (seated_at p d) (changes (Starting new)))) || c))
      go true y = inv_own q new a fs left z m refl y
      go false y = inv_told (applies q a) fs d _ left z (cond-false (eqb p a.port) (q ∷ []) [] y) (tells_starting p b new h.sound m y)
  inv_serve t (welcomes x v u) fs k left z m = inv_told (welcomes x v u) fs _ _ left z refl (telling_nothing p b h.sound)
  inv_serve t (reports v) fs k left z m = inv_told (reports v) fs _ _ left z refl (telling_nothing p b h.sound)
  inv_serve t (carries x o) fs k left z m = inv_told (carries x o) fs _ _ left z refl (telling_nothing p b h.sound)
  inv_serve t (garbled x) fs k left z m = inv_told (garbled x) fs _ _ left z refl (telling_nothing p b h.sound)

  -- what it gives
  pub inv_views : (k r : ℕ) → e.standing ≡ In k r → Gives b p k → c ≡ true → reading p e w ≡ place (In k r) b
  inv_views k r x g cl =
      let st : Stands p g.who (In k r) w = subst (λ (m : Standing). Stands p g.who m w) x (h.stand g.who g.listed g.there) in
      let listed : has (member_of k r p) b ≡ true = subst (λ (y : Member). has y b ≡ true) st.0 g.listed in
      let safe : Safe (member_of k r p) w = subst (λ (y : Member). Safe y w) st.0 st.1 in
      let m : (reading p e w).standing ≡ In k r = stays_all p k r e w x safe in
      let v : (reading p e w).view ≡ b = h.agree cl k r m listed in
      λ j. record { standing = m j; view = v j }
