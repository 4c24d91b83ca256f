-- What a serve answered and took tells what it did to the book; with it, rules stand as served. Assumes nothing.
use Rattle.std.proofs.Common.{◌≡◌, ℕ, Bool, true, false, cond, ◌⊎◌, List, Some, sym, refl, ap, ◌∙◌, subst, inl, inr, arith}
use Rattle.std.proofs.lemmas.Bool.{both_ways, cond-true}
use Rattle.words.specs.declared.applicant.Applicant.{Applicant}
use Rattle.words.specs.declared.member.Member.{Member}
use Rattle.words.specs.declared.rule.Rule.{Rule}
use Rattle.words.specs.Records.{valid_member}
use Rattle.book.specs.declared.change.Change.{Change}
use Rattle.book.specs.declared.change.Change.TheVariants.{Starting, Stopping, Enter, Withdraw}
use Rattle.rules.specs.declared.served.Served.TheVariants.{Done, Unchanged, Rejected, Unknown}
use Rattle.rules.specs.Codes.{served_code}
use Rattle.rules.specs.Listings.{Listing, has, standing, accepts, applied}
use Rattle.rules.specs.Meanings.{Meaning, rejects, dead, changes, applies, welcomes, reports, carries, garbled, meaning}
use Rattle.rules.specs.Registrar.{idle, spread, Numbered, tell_dead, tell_full, change_deed, newcomer, deed, change_served, served, booked}
use Rattle.rules.specs.Puts.{missed_mask}
use Rattle.rules.specs.Calls.{State, Call, serve, passed, frame_at, serve_checks, serve_done, Took, Event, puts_of, event_by, event, after, Given}
use Rattle.rules.specs.Runs.{History, begin, ◌▹◌, Step, Reached}
use Rattle.rules.specs.Upheld.{serve_code, Serving, Enters, Withdraws, Ends, ◌▸▸◌, Every, Stood, RulesStand}
use Rattle.rules.proofs.Agreeing.{served_written}
use Rattle.rules.proofs.Books.{one_with_number}
use Rattle.rules.proofs.Carried.{Sane, sane_octets, seats_right}
use Rattle.rules.proofs.Cases.{each_call}
use Rattle.rules.proofs.Kept.{proper}
use Rattle.rules.proofs.Proper.{Proper}
use Rattle.rules.proofs.Upheld.{Did, entered, withdrew, ended, seated, Came, came_from, stays_up, entered-stands}

-- with code 1 something was done, with any other code the book is as it was
abbrev Way : Listing → Listing → Meaning → ℕ → Type 0
Way b d m k = ((k ≡ 1 → ⊥) × (d ≡ b)) ⊎ ((k ≡ 1) × Did b d m)

idle_way : (b : Listing) (m : Meaning) (k : ℕ) → (k ≡ 1 → ⊥) → Way b b m k
idle_way b m k h = inl (h, refl)

change_way : (b : Listing) (t : ℕ) (c : Change) (x : ℕ) → Way b (booked b (change_deed b t c)) (changes c) (served_code (change_served b c x))
change_way b t (Starting w) x = idle_way b _ _ (λ z. omega arith)
change_way b t (Stopping w) x = go (has w b) refl
  where
    go : (v : Bool) → has w b ≡ v → Way b (booked b (cond v (spread (applied b (Stopping w))) idle)) (changes (Stopping w)) (served_code (cond v (Done x) (Unknown x)))
    go true h = inr (refl, ended w refl h (cond-true (has w b) _ _ h))
    go false h = idle_way b _ _ (λ z. omega arith)
change_way b t (Enter w u) x = go (has w b) refl (accepts b (Enter w u)) refl (standing u b)
  where
    go : (v : Bool) → has w b ≡ v → (y : Bool) → accepts b (Enter w u) ≡ y → (z : Bool)
        → Way b (booked b (cond v (cond y (spread (applied b (Enter w u))) (cond z idle (tell_full t w u.kind))) (tell_dead t w))) (changes (Enter w u)) (served_code (cond v (cond y (Done x) (cond z Unchanged (Rejected x))) (Unknown x)))
    go true h true k z = inr (refl, entered w u refl h k (cond-true (accepts b (Enter w u)) _ _ k))
    go true h false k true = idle_way b _ _ (λ e. omega arith)
    go true h false k false = idle_way b _ _ (λ e. omega arith)
    go false h y k z = idle_way b _ _ (λ e. omega arith)
change_way b t (Withdraw w u) x = go (has w b) refl (accepts b (Withdraw w u)) refl
  where
    go : (v : Bool) → has w b ≡ v → (y : Bool) → accepts b (Withdraw w u) ≡ y
        → Way b (booked b (cond v (cond y (spread (applied b (Withdraw w u))) idle) (tell_dead t w))) (changes (Withdraw w u)) (served_code (cond v (cond y (Done x) Unchanged) (Unknown x)))
    go true h true k = inr (refl, withdrew w u refl h k (cond-true (accepts b (Withdraw w u)) _ _ k))
    go true h false k = idle_way b _ _ (λ e. omega arith)
    go false h y k = idle_way b _ _ (λ e. omega arith)

served_way : (b : Listing) (t : ℕ) (m : Meaning) (l n x : ℕ) → Sane m → Numbered l b m n → Way b (booked b (deed b t m n)) m (served_code (served b m x))
served_way b t (rejects f y) l n x h g = idle_way b _ _ (λ z. omega arith)
served_way b t (dead y) l n x h g = idle_way b _ _ (λ z. omega arith)
served_way b t (changes c) l n x h g = change_way b t c x
served_way b t (applies q a) l n x h g =
    let v = seats_right q a l n _ h g in
    inr (refl, seated q a n refl v g.free (cond-true (valid_member (newcomer a n)) _ _ v))
served_way b t (welcomes q w v) l n x h g = idle_way b _ _ (λ z. omega arith)
served_way b t (reports v) l n x h g = idle_way b _ _ (λ z. omega arith)
served_way b t (carries y o) l n x h g = idle_way b _ _ (λ z. omega arith)
served_way b t (garbled e) l n x h g = idle_way b _ _ (λ z. omega arith)

-- of any call: it was no serve with code 1, and the book is as it was, or it took a frame and did what that says
abbrev Told : State → Event → Listing → Type 0
Told s e d = ((serve_code e.answer ≡ 1 → ⊥) × (d ≡ s.book)) ⊎ ((f : Took) × (e.took ≡ Some f) × Did s.book d (meaning f.octets) × (serve_code e.answer ≡ 1))

not_one : ◌≡◌ {A = ℕ} 0 1 → ⊥
not_one z = omega arith

told_serve : (s : State) (t a b n : ℕ) → Proper s → Given s (serve t a b) n → passed (serve_checks s t a b) ≡ true → Told s (event_by s (serve t a b) (serve_done s t n)) (serve_done s t n).book
told_serve s t a b n ok g k = go (served_way s.book t (meaning o) s.last n (missed_mask (puts_of s (serve_done s t n))) (sane_octets o (served_written s t a b ok k)) (g k))
  where
    o : List ℕ
    o = frame_at s 0 0

    go : Way s.book (serve_done s t n).book (meaning o) (served_code (served s.book (meaning o) (missed_mask (puts_of s (serve_done s t n))))) → Told s (event_by s (serve t a b) (serve_done s t n)) (serve_done s t n).book
    go (inl x) = inl x
    go (inr x) = inr (record { port = 0; place = 0; octets = o }, refl, x.1, x.0)

told_after : (s : State) (c : Call) (n : ℕ) → Proper s → Given s c n → Told s (event s c n) (after s c n).book
told_after s c n ok g =
    each_call s n (λ x o. Told s (event_by s x o) o.book) (λ x r. inl (not_one, refl)) (record {
      registers = λ q r t b y. inl (not_one, refl);
      unregisters = λ q t b y. inl (not_one, refl);
      requests = λ j q r x t b y. inl (not_one, refl);
      tells = λ a q x pr cx body b y. inl (not_one, refl);
      receives = λ q b y. inl (not_one, refl);
      serves = λ t a b z y. told_serve s t a b n ok z y;
      reports = λ q t b y. inl (not_one, refl);
      loses = λ q j y. inl (not_one, refl);
    }) c g

-- what a serve took
taken_is : (e : Event) (m : Meaning) (f : Took) → Serving e m → e.took ≡ Some f → meaning f.octets ≡ m
taken_is e m f v z = let x = v.taken in let same : v.frame ≡ f = cc in ap (λ (y : Took). meaning y.octets) (sym same) ∙ v.says

serving : (e : Event) (m : Meaning) (f : Took) → serve_code e.answer ≡ 1 → e.took ≡ Some f → meaning f.octets ≡ m → Serving e m
serving e m f k z y = record { code = k; frame = f; taken = z; says = y }

-- the rule stands with its member
abbrev Up : Rule → Member → Listing → Type 0
Up u w b = (standing u b ≡ true) × (has w b ≡ true) × (u.number ≡ w.number)

-- one call more, that neither withdraws the rule nor ends the membership
up_more : (s : State) (e : Event) (d : Listing) → Proper s → Told s e d → (u : Rule) (w : Member) → Up u w s.book → (Withdraws e u → ⊥) → (Ends e w → ⊥) → Up u w d
up_more s e d ok (inl x) u w h nw ne = subst (Up u w) (sym x.1) h
up_more s e d ok (inr x) u w h nw ne =
    let k = stays_up s.book d (meaning x.0.octets) ok.book x.2 u w h.0 h.1 h.2
    (λ y. nw (y.0, serving e _ x.0 x.3 x.1 y.1)) (λ y. ne (ends y)) in
    (k.0, k.1, h.2)
  where
    ends : (meaning x.0.octets ≡ changes (Stopping w)) ⊎ ((q : ℕ) × (a : Applicant) × (meaning x.0.octets ≡ applies q a) × (a.port ≡ w.port)) → Ends e w
    ends (inl y) = inl (serving e _ x.0 x.3 x.1 y)
    ends (inr y) = inr (y.0, y.1, serving e _ x.0 x.3 x.1 y.2, y.3)

-- the call that entered it
up_entered : (s : State) (e : Event) (d : Listing) → Proper s → Told s e d → (u : Rule) (w : Member) → Enters e w u → Up u w d
up_entered s e d ok (inl x) u w h = absurd (x.0 h.code)
up_entered s e d ok (inr x) u w h = entered-stands s.book d (meaning x.0.octets) ok.book x.2 w u (taken_is e _ x.0 h x.1)

-- the call that led from s to t
told_step : (s : State) (e : Event) (t : State) (h : History) → Reached s h → (p : Step s e t) → Told s e t.book
told_step s e t h past p =
    subst (λ (u : State). Told s e u.book) (sym p.becomes) (subst (λ (x : Event). Told s x (after s e.call p.number).book) (sym p.happens) (told_after s e.call p.number (proper h s past) p.given))

stands_since : (u : Rule) (w : Member) (before : History) (e : Event) (l : History) → Enters e w u → Every (λ x. (Withdraws x u → ⊥) × (Ends x w → ⊥)) l → (s : State) → Reached s ((before ▹ e) ▸▸ l) → Up u w s.book
stands_since u w before e begin h k t past = up_entered past.0 e t.book (proper before past.0 past.1) (told_step past.0 e t before past.1 past.2) u w h
stands_since u w before e (l ▹ x) h k t past =
    up_more past.0 x t.book (proper ((before ▹ e) ▸▸ l) past.0 past.1) (told_step past.0 x t ((before ▹ e) ▸▸ l) past.1 past.2) u w
    (stands_since u w before e l h k.0 past.0 past.1) k.1.0 k.1.1

-- the entry of a rule that stands, with its member, who stands too
abbrev Found : Rule → History → State → Type 0
Found u h s = (f : Stood u h) × (has f.whose s.book ≡ true) × (u.number ≡ f.whose.number)

go_on : (s : State) (e : Event) (t : State) (h : History) (u : Rule) → Proper s → Told s e t.book → standing u t.book ≡ true → (standing u s.book ≡ true → Found u h s) → Found u (h ▹ e) t
go_on s e t h u ok (inl x) st ih =
    let f = ih (ap (standing u) (sym x.1) ∙ st) in (
      record {
        before = f.0.before;
        entry = f.0.entry;
        later = f.0.later ▹ e;
        whose = f.0.whose;
        split = ap (λ (y : History). y ▹ e) f.0.split;
        enters = f.0.enters;
        lasts = (f.0.lasts, (λ y. x.0 y.1.code, never));
      },
      ap (has f.0.whose) x.1 ∙ f.1,
      f.2,
    )
  where
    never : {w : Member} → Ends e w → ⊥
    never (inl y) = x.0 y.code
    never (inr y) = x.0 y.2.code
go_on s e t h u ok (inr x) st ih = by (came_from s.book t.book (meaning x.0.octets) ok.book x.2 u st)
  where
    by : Came s.book t.book (meaning x.0.octets) u → Found u (h ▹ e) t
    by (inl y) = (
      record {
        before = h;
        entry = e;
        later = begin;
        whose = y.0;
        split = refl;
        enters = serving e _ x.0 x.3 x.1 y.1;
        lasts = tt;
      },
      y.2,
      y.3,
    )
    by (inr y) =
        let f = ih y.0 in
        let k = y.2 f.0.whose f.1 f.2 in (
          record {
            before = f.0.before;
            entry = f.0.entry;
            later = f.0.later ▹ e;
            whose = f.0.whose;
            split = ap (λ (z : History). z ▹ e) f.0.split;
            enters = f.0.enters;
            lasts = (f.0.lasts, (λ z. y.1 (z.0, taken_is e _ x.0 z.1 x.1), λ z. k.0 (ended_by z)));
          },
          k.1,
          f.2,
        )
      where
        ended_by : {w : Member} → Ends e w → (meaning x.0.octets ≡ changes (Stopping w)) ⊎ ((q : ℕ) × (a : Applicant) × (meaning x.0.octets ≡ applies q a) × (a.port ≡ w.port))
        ended_by (inl z) = inl (taken_is e _ x.0 z x.1)
        ended_by (inr z) = inr (z.0, z.1, taken_is e _ x.0 z.2 x.1, z.3)

found : (u : Rule) (h : History) (s : State) → Reached s h → standing u s.book ≡ true → Found u h s
found u begin s past st = absurd (both_ways false refl (sym (ap (standing u) past.no_book) ∙ st))
found u (h ▹ e) t past st = go_on past.0 e t h u (proper h past.0 past.1) (told_step past.0 e t h past.1 past.2) st (found u h past.0 past.1)

pub rules_stand : RulesStand
rules_stand h s past = record {
  entered = λ u st. (found u h s past st).0;
  stands = λ u f. (stands_since u f.whose f.before f.entry f.later f.enters f.lasts s (subst (Reached s) f.split past)).0;
  apart = λ v w k l n. ap (λ (x : Member). x.port) (one_with_number s.book (proper h s past).book v w k l n);
}
