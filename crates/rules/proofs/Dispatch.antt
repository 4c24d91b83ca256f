-- What a serve puts is what the port is told, at most one frame for a port. Assumes nothing.
use Rattle.std.proofs.Common.{◌≡◌, ℕ, Bool, true, false, cond, not, ◌||◌, eqb, ltb, List, [], ◌∷◌, map, sym, refl, ap, ◌∙◌, subst, arith}
use Rattle.std.specs.List.{AllByRecursion as All}
use Rattle.std.proofs.lemmas.Bool.{and_from, and_parts, cond_both, cond-true, cond-false, eqb-true, eqb-false, eq-eqb, ne_eqb, lt-ltb, not-true}
use Rattle.words.specs.declared.member.Member.{Member}
use Rattle.words.specs.Ranges.{within}
use Rattle.words.specs.Records.{id_of, module_of, valid_member}
use Rattle.wire.specs.Frames.{FrameV, rejection, you_are_dead, you_are_in, i_am_starting}
use Rattle.wire.specs.Writes.{write, carried, in_time}
use Rattle.line.specs.Lines.{Rule as Fitting, Waiting}
use Rattle.book.specs.declared.change.Change.{Change}
use Rattle.book.specs.declared.change.Change.TheVariants.{Starting, Stopping, Enter, Withdraw}
use Rattle.book.specs.Matching.{some}
use Rattle.book.specs.Sound.{each, other_port, ports_apart}
use Rattle.book.proofs.Keeping.{each_kept, ports_kept}
use Rattle.book.proofs.Writing.{members_again, rules_again}
use Rattle.rules.specs.declared.served.Served.{Served}
use Rattle.rules.specs.declared.served.Served.TheVariants.{Done, Unchanged, Rejected, Unknown}
use Rattle.rules.specs.Codes.{served_missed}
use Rattle.rules.specs.Listings.{Listing, has, standing, seated_at, accepts, changed, applied, octets_of, listing_in, Whole}
use Rattle.rules.specs.Meanings.{Meaning, rejects, dead, changes, applies, welcomes, reports, carries, garbled, said, meaning, is_message}
use Rattle.rules.specs.Registrar.{Deed, idle, back, spread, admit, others, Numbered, one_if, list_full, tell_dead, tell_full, change_deed, newcomer, deed, change_served, served, told, Sending, to_each, dispatch}
use Rattle.line.specs.Laws.{in_mask}
use Rattle.rules.specs.Puts.{offers, missed_mask}
use Rattle.rules.proofs.Books.{applied_whole, changed_whole}
use Rattle.rules.proofs.Carried.{Sane, seats_right, welcome_carried, member_parts, module_small, module_right, low_part, high_part}
use Rattle.line.proofs.Masks.{in_none}
use Rattle.rules.proofs.Proper.{means}
use Rattle.rules.proofs.Putting.{Few, sent, missed_at, missed-in_mask}

pub eqb_swap : (a b : ℕ) → eqb a b ≡ eqb b a
eqb_swap a b = go (eqb b a) refl
  where
    go : (v : Bool) → eqb b a ≡ v → eqb a b ≡ v
    go true e = eq-eqb a b (sym (eqb-true b a e))
    go false e = ne_eqb a b (λ z. eqb-false b a e (sym z))

-- somebody among them is at the port p
abbrev seat : ℕ → List Member → Bool
seat p ms = some (λ m. eqb m.port p) ms

nobody_else : (p : ℕ) (ms : List Member) → each (other_port p) ms ≡ true → seat p ms ≡ false
nobody_else p [] h = refl
nobody_else p (m ∷ ms) h =
    let a = and_parts (other_port p m) (each (other_port p) ms) h in
    ap (λ b. b || seat p ms) (not-true (eqb m.port p) a.0) ∙ nobody_else p ms a.1

sent-each : (o : List ℕ) (ms : List Member) (p : ℕ) → ports_apart ms ≡ true → sent p (to_each o ms) ≡ one_if (seat p ms) o
sent-each o [] p h = refl
sent-each o (m ∷ ms) p h =
    let a = and_parts (each (other_port m.port) ms) (ports_apart ms) h in
    ap (λ b. cond b (o ∷ sent p (to_each o ms)) (sent p (to_each o ms))) (eqb_swap p m.port) ∙ go (eqb m.port p) refl a.0 (sent-each o ms p a.1)
  where
    go : (v : Bool) → eqb m.port p ≡ v → each (other_port m.port) ms ≡ true → sent p (to_each o ms) ≡ one_if (seat p ms) o
        → cond v (o ∷ sent p (to_each o ms)) (sent p (to_each o ms)) ≡ one_if (v || seat p ms) o
    go true e k ih = ap (λ x. o ∷ x) (ih ∙ ap (λ b. one_if b o) (nobody_else p ms (subst (λ q. each (other_port q) ms ≡ true) (eqb-true m.port p e) k)))
    go false e k ih = ih

-- at other ports nothing changes when the one at w goes
seat-others : (p w : ℕ) (ms : List Member) → eqb p w ≡ false → seat p (others w ms) ≡ seat p ms
seat-others p w [] h = refl
seat-others p w (m ∷ ms) h = go (eqb m.port w) refl (seat-others p w ms h)
  where
    go : (v : Bool) → eqb m.port w ≡ v → seat p (others w ms) ≡ seat p ms → seat p (cond (not v) (m ∷ others w ms) (others w ms)) ≡ (eqb m.port p || seat p ms)
    go false e ih = ap (λ b. eqb m.port p || b) ih
    go true e ih =
        let d : eqb m.port p ≡ false = ne_eqb m.port p (λ z. eqb-false p w h (sym z ∙ eqb-true m.port w e)) in
        ih ∙ ap (λ b. b || seat p ms) (sym d)

seat-gone : (w : ℕ) (ms : List Member) → seat w (others w ms) ≡ false
seat-gone w [] = refl
seat-gone w (m ∷ ms) = go (eqb m.port w) refl (seat-gone w ms)
  where
    go : (v : Bool) → eqb m.port w ≡ v → seat w (others w ms) ≡ false → seat w (cond (not v) (m ∷ others w ms) (others w ms)) ≡ false
    go false e ih = ap (λ b. b || seat w (others w ms)) e ∙ ih
    go true e ih = ih

-- what a deed puts at the port p
abbrev pub mail : Deed → ℕ → List ℕ → ℕ → List (List ℕ)
mail idle t o p = []
mail (back q v) t o p = one_if (eqb p q) (write v)
mail (spread v) t o p = one_if (seated_at p v) o
mail (admit v w q) t o p = cond (eqb p w.port) (write (you_are_in t q w (octets_of v)) ∷ []) (one_if (seated_at p v) (write (i_am_starting t w)))

abbrev pub BooksWhole : Deed → Type 0
BooksWhole idle = Unit {0}
BooksWhole (back q v) = Unit {0}
BooksWhole (spread v) = Whole v
BooksWhole (admit v w q) = Whole v

pub sent-mail : (d : Deed) (t : ℕ) (o : List ℕ) (p : ℕ) → BooksWhole d → sent p (dispatch d t o) ≡ mail d t o p
sent-mail idle t o p h = refl
sent-mail (back q v) t o p h = refl
sent-mail (spread v) t o p h = sent-each o v.members p h.ports
sent-mail (admit v w q) t o p h =
    let rest : List Member = others w.port v.members in
    let e : sent p (to_each (write (i_am_starting t w)) rest) ≡ one_if (seat p rest) (write (i_am_starting t w)) = sent-each (write (i_am_starting t w)) rest p (ports_kept (other_port w.port) v.members h.ports) in
    go (eqb p w.port) refl e
  where
    first : List ℕ
    first = write (you_are_in t q w (octets_of v))

    later : List ℕ
    later = write (i_am_starting t w)

    go : (b : Bool) → eqb p w.port ≡ b → sent p (to_each later (others w.port v.members)) ≡ one_if (seat p (others w.port v.members)) later
        → cond b (first ∷ sent p (to_each later (others w.port v.members))) (sent p (to_each later (others w.port v.members))) ≡ cond b (first ∷ []) (one_if (seated_at p v) later)
    go true z e = ap (λ x. first ∷ x) (e ∙ ap (λ b. one_if b later) (ap (λ q. seat q (others w.port v.members)) (eqb-true p w.port z) ∙ seat-gone w.port v.members))
    go false z e = e ∙ ap (λ b. one_if b later) (seat-others p w.port v.members z)

few_if : (b : Bool) (o : List ℕ) → Few (one_if b o)
few_if true o = tt
few_if false o = tt

few_mail : (d : Deed) (t : ℕ) (o : List ℕ) (p : ℕ) → Few (mail d t o p)
few_mail idle t o p = tt
few_mail (back q v) t o p = few_if (eqb p q) (write v)
few_mail (spread v) t o p = few_if (seated_at p v) o
few_mail (admit v w q) t o p = cond_both (eqb p w.port) _ _ Few (λ e. tt) (λ e. few_if (seated_at p v) (write (i_am_starting t w)))

pub few_sent : (d : Deed) (t : ℕ) (o : List ℕ) (p : ℕ) → BooksWhole d → Few (sent p (dispatch d t o))
few_sent d t o p h = subst Few (sym (sent-mail d t o p h)) (few_mail d t o p)

-- what is put means what is told, and the members are at ports that a mask has
abbrev MeansTold : ℕ → List ℕ → Deed → Type 0
MeansTold t o d = (p : ℕ) → map meaning (mail d t o p) ≡ told d (meaning o) p

map_if : (b : Bool) (o : List ℕ) (m : Meaning) → meaning o ≡ m → map meaning (one_if b o) ≡ one_if b m
map_if true o m e = ap (λ x. x ∷ []) e
map_if false o m e = refl

told_back : (t : ℕ) (o : List ℕ) (q : ℕ) (v : FrameV) → carried v ≡ true → MeansTold t o (back q v)
told_back t o q v h p = map_if (eqb p q) (write v) (said v) (means v h)

told_spread : (t : ℕ) (o : List ℕ) (v : Listing) → MeansTold t o (spread v)
told_spread t o v p = map_if (seated_at p v) o (meaning o) refl

-- a book that was written reads back
pub listing_again : (b : Listing) → Whole b → listing_in (octets_of b) ≡ b
listing_again b s = λ i. record { members = members_again b.members b.rules s i; rules = rules_again b.members b.rules s i }

told_admit : (t : ℕ) (o : List ℕ) (q : ℕ) (v : Listing) (w : Member) → Whole v → carried (you_are_in t q w (octets_of v)) ≡ true → carried (i_am_starting t w) ≡ true → MeansTold t o (admit v w q)
told_admit t o q v w s h k p = go (eqb p w.port)
  where
    go : (b : Bool) → map meaning (cond b (write (you_are_in t q w (octets_of v)) ∷ []) (one_if (seated_at p v) (write (i_am_starting t w)))) ≡ cond b (welcomes q w v ∷ []) (one_if (seated_at p v) (changes (Starting w)))
    go true = ap (λ x. x ∷ []) (means (you_are_in t q w (octets_of v)) h ∙ ap (welcomes q w) (listing_again v s))
    go false = map_if (seated_at p v) (write (i_am_starting t w)) (changes (Starting w)) (means (i_am_starting t w) k)

-- what holds of the frames of a deed, o being the octets served
pub record Posted (t : ℕ) (o : List ℕ) (d : Deed) : Type 0 where
  pub whole : BooksWhole d
  pub means_so : MeansTold t o d
  pub ports : each (λ (x : Sending). ltb x.port 64) (dispatch d t o) ≡ true
  pub away : sent 0 (dispatch d t o) ≡ []
  pub official : (p : ℕ) → All (λ m. is_message m ≡ false) (told d (meaning o) p)

posted_idle : (t : ℕ) (o : List ℕ) → Posted t o idle
posted_idle t o = record { whole = tt; means_so = λ p. refl; ports = refl; away = refl; official = λ p. tt }

port_small : (w : Member) → valid_member w ≡ true → (ltb w.port 64 ≡ true) × (eqb 0 w.port ≡ false)
port_small w h =
    let a = (member_parts w h).2 in
    let l = low_part 1 15 w.port a in
    let u = high_part 1 15 w.port a in
    (lt-ltb w.port 64 (omega arith), ne_eqb 0 w.port (λ z. omega arith))

all_if : (b : Bool) (m : Meaning) → is_message m ≡ false → All (λ x. is_message x ≡ false) (one_if b m)
all_if true m h = (h, tt)
all_if false m h = tt

posted_back : (t : ℕ) (o : List ℕ) (w : Member) (v : FrameV) → valid_member w ≡ true → carried v ≡ true → is_message (said v) ≡ false → Posted t o (back w.port v)
posted_back t o w v h k m = record {
  whole = tt;
  means_so = told_back t o w.port v k;
  ports = and_from _ _ (port_small w h).0 refl;
  away = cond-false (eqb 0 w.port) _ _ (port_small w h).1;
  official = λ p. all_if (eqb p w.port) (said v) m;
}

ports_each : (o : List ℕ) (ms : List Member) → each valid_member ms ≡ true → each (λ (x : Sending). ltb x.port 64) (to_each o ms) ≡ true
ports_each o [] h = refl
ports_each o (m ∷ ms) h = let a = and_parts (valid_member m) (each valid_member ms) h in and_from _ _ (port_small m a.0).0 (ports_each o ms a.1)

none_at_zero : (ms : List Member) → each valid_member ms ≡ true → seat 0 ms ≡ false
none_at_zero [] h = refl
none_at_zero (m ∷ ms) h =
    let a = and_parts (valid_member m) (each valid_member ms) h in
    ap (λ b. b || seat 0 ms) (eqb_swap m.port 0 ∙ (port_small m a.0).1) ∙ none_at_zero ms a.1

posted_spread : (t : ℕ) (o : List ℕ) (v : Listing) → Whole v → is_message (meaning o) ≡ false → Posted t o (spread v)
posted_spread t o v s m = record {
  whole = s;
  means_so = told_spread t o v;
  ports = ports_each o v.members s.members_valid;
  away = sent-mail (spread v) t o 0 s ∙ ap (λ b. one_if b o) (none_at_zero v.members s.members_valid);
  official = λ p. all_if (seated_at p v) (meaning o) m;
}

posted_admit : (t : ℕ) (o : List ℕ) (q : ℕ) (b : Listing) (w : Member) → Whole b → in_time t ≡ true → within 1 4294967295 q ≡ true → valid_member w ≡ true → Posted t o (admit (changed b (Starting w)) w q)
posted_admit t o q b w s i h v =
    let d : Listing = changed b (Starting w) in
    let k : Whole d = changed_whole b (Starting w) s v in
    record {
      whole = k;
      means_so = told_admit t o q d w k (welcome_carried t q b w s i h v) (and_from _ _ i v);
      ports = and_from _ _ (port_small w v).0 (ports_each (write (i_am_starting t w)) (others w.port d.members) (each_kept valid_member (other_port w.port) d.members k.members_valid));
      away = sent-mail (admit d w q) t o 0 k ∙ cond-false (eqb 0 w.port) _ _ (port_small w v).1 ∙ ap (λ x. one_if x (write (i_am_starting t w))) (none_at_zero d.members k.members_valid);
      official = λ p. cond_both (eqb p w.port) _ _ (All (λ m. is_message m ≡ false)) (λ e. (refl, tt)) (λ e. all_if (seated_at p d) (changes (Starting w)) refl);
    }

posted_dead : (t : ℕ) (o : List ℕ) (w : Member) → in_time t ≡ true → valid_member w ≡ true → Posted t o (tell_dead t w)
posted_dead t o w i h = posted_back t o w (you_are_dead t (module_of w)) h (and_from _ _ i (module_right w h)) refl

change_posted : (b : Listing) (t : ℕ) (c : Change) (o : List ℕ) → Whole b → in_time t ≡ true → is_message (meaning o) ≡ false → Sane (changes c) → Posted t o (change_deed b t c)
change_posted b t (Starting w) o s i k h = posted_idle t o
change_posted b t (Stopping w) o s i k h =
    cond_both (has w b) _ _ (Posted t o) (λ e. posted_spread t o (applied b (Stopping w)) (applied_whole b (Stopping w) s) k) (λ e. posted_idle t o)
change_posted b t (Enter w u) o s i k h =
    cond_both (has w b) _ _ (Posted t o)
    (λ e. cond_both (accepts b (Enter w u)) _ _ (Posted t o)
    (λ z. posted_spread t o (applied b (Enter w u)) (applied_whole b (Enter w u) s) k)
    (λ z. cond_both (standing u b) _ _ (Posted t o) (λ y. posted_idle t o)
    (λ y. posted_back t o w (rejection t (id_of (module_of w)) (list_full u.kind)) h (and_from _ _ i (module_small w h)) refl)))
    (λ e. posted_dead t o w i h)
change_posted b t (Withdraw w u) o s i k h =
    cond_both (has w b) _ _ (Posted t o)
    (λ e. cond_both (accepts b (Withdraw w u)) _ _ (Posted t o)
    (λ z. posted_spread t o (applied b (Withdraw w u)) (applied_whole b (Withdraw w u) s) k)
    (λ z. posted_idle t o))
    (λ e. posted_dead t o w i h)

pub deed_posted : (b : Listing) (t : ℕ) (m : Meaning) (l n : ℕ) (o : List ℕ) → Whole b → in_time t ≡ true → is_message (meaning o) ≡ false → Sane m → Numbered l b m n → Posted t o (deed b t m n)
deed_posted b t (rejects f y) l n o s i k h g = posted_idle t o
deed_posted b t (dead m) l n o s i k h g = posted_idle t o
deed_posted b t (changes c) l n o s i k h g = change_posted b t c o s i k h
deed_posted b t (applies q a) l n o s i k h g =
    let v = seats_right q a l n _ h g in
    subst (λ (d : Listing). Posted t o (admit d (newcomer a n) q)) (sym (cond-true (valid_member (newcomer a n)) _ _ v)) (posted_admit t o q b (newcomer a n) s i h.0 v)
deed_posted b t (welcomes q m v) l n o s i k h g = posted_idle t o
deed_posted b t (reports v) l n o s i k h g = posted_idle t o
deed_posted b t (carries x y) l n o s i k h g = posted_idle t o
deed_posted b t (garbled e) l n o s i k h g = posted_idle t o

-- the mask that serve answers has just the ports where a frame did not fit
module _ (rule : Fitting) (w : Waiting) (t : ℕ) (o : List ℕ) (p : ℕ) where
  abbrev Masked : Deed → (ℕ → Served) → Type 0
  Masked d f = in_mask (served_missed (f (missed_mask (offers rule w (dispatch d t o))))) p ≡ missed_at p (offers rule w (dispatch d t o))

  mask_right : (d : Deed) → Posted t o d → in_mask (missed_mask (offers rule w (dispatch d t o))) p ≡ missed_at p (offers rule w (dispatch d t o))
  mask_right d h = missed-in_mask rule w (dispatch d t o) p h.ports

  change_masked : (b : Listing) (c : Change) → Posted t o (change_deed b t c) → Masked (change_deed b t c) (change_served b c)
  change_masked b (Starting x) h = in_none p
  change_masked b (Stopping x) h = go (has x b) h
    where
      go : (v : Bool) → Posted t o (cond v (spread (applied b (Stopping x))) idle) → Masked (cond v (spread (applied b (Stopping x))) idle) (λ k. cond v (Done k) (Unknown k))
      go true k = mask_right _ k
      go false k = in_none p
  change_masked b (Enter x u) h = go (has x b) (accepts b (Enter x u)) (standing u b) h
    where
      go : (v y z : Bool) → Posted t o (cond v (cond y (spread (applied b (Enter x u))) (cond z idle (tell_full t x u.kind))) (tell_dead t x))
          → Masked (cond v (cond y (spread (applied b (Enter x u))) (cond z idle (tell_full t x u.kind))) (tell_dead t x)) (λ k. cond v (cond y (Done k) (cond z Unchanged (Rejected k))) (Unknown k))
      go true true z k = mask_right _ k
      go true false true k = in_none p
      go true false false k = mask_right _ k
      go false y z k = mask_right _ k
  change_masked b (Withdraw x u) h = go (has x b) (accepts b (Withdraw x u)) h
    where
      go : (v y : Bool) → Posted t o (cond v (cond y (spread (applied b (Withdraw x u))) idle) (tell_dead t x))
          → Masked (cond v (cond y (spread (applied b (Withdraw x u))) idle) (tell_dead t x)) (λ k. cond v (cond y (Done k) Unchanged) (Unknown k))
      go true true k = mask_right _ k
      go true false k = in_none p
      go false y k = mask_right _ k

  pub served_masked : (b : Listing) (m : Meaning) (n : ℕ) → Posted t o (deed b t m n) → Masked (deed b t m n) (served b m)
  served_masked b (rejects f y) n h = in_none p
  served_masked b (dead m) n h = in_none p
  served_masked b (changes c) n h = change_masked b c h
  served_masked b (applies q a) n h = mask_right _ h
  served_masked b (welcomes q m v) n h = in_none p
  served_masked b (reports v) n h = in_none p
  served_masked b (carries x y) n h = in_none p
  served_masked b (garbled e) n h = in_none p
