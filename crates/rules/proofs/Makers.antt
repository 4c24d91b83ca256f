-- Who put what waits at an end's port is seen from the frames: a registrar's call, unless it is a message. With it,
-- views agree. Assumes nothing.
use Rattle.std.proofs.Common.{◌≡◌, ℕ, zero, suc, ◌≤◌, Bool, true, false, cond, not, eqb, List, [], ◌∷◌, ◌++◌, map, take, drop, Some, None, Option, sym, refl, ap, ◌∙◌, subst}
use Rattle.std.specs.List.{remove, AllByRecursion as All}
use Rattle.std.proofs.ByRecursion.{All-weaker}
use Rattle.std.proofs.lemmas.Bool.{both_ways, eqb-true}
use Rattle.words.specs.Records.{member_of}
use Rattle.wire.specs.Frames.{FrameV}
use Rattle.wire.specs.Writes.{write}
use Rattle.book.specs.declared.audience.Audience.{Audience}
use Rattle.rules.specs.declared.answer.Answer.{Answer}
use Rattle.rules.specs.declared.answer.Answer.TheVariants.{Done, Query}
use Rattle.rules.specs.declared.standing.Standing.{Standing}
use Rattle.rules.specs.declared.standing.Standing.TheVariants.{Out, In}
use Rattle.rules.specs.Listings.{Listing, blank}
use Rattle.rules.specs.Meanings.{meaning, is_message}
use Rattle.rules.specs.Ends.{Place, place, reads, reading}
use Rattle.rules.specs.Registrar.{sending}
use Rattle.rules.specs.Puts.{arrived}
use Rattle.rules.specs.Calls.{End, State, Call, register, unregister, request, tell, receive, serve, report, lose, Taking, Outcome, refusing, passed, putting, registering, register_done, stopping, unregister_done, requesting, request_done, tell_checks, tell_done, receive_done, serve_checks, serve_done, reporting, report_checks, report_done, lose_done, outcome, Given, took, line_less, puts_of, Event, state_by, after}
use Rattle.rules.specs.Runs.{History, begin, ◌▹◌, New, Reached}
use Rattle.rules.specs.Promises.{by_registrar, less_taken, makers, clean, official, ViewsAgree}
use Rattle.rules.proofs.Agree.{reading-without}
use Rattle.rules.proofs.Agreeing.{map-++, away, Holds, cleaned, holds_after, copies_arrive, official_arrive}
use Rattle.rules.proofs.Books.{blank_whole}
use Rattle.rules.proofs.Carried.{member_parts, low_part}
use Rattle.rules.proofs.Kept.{held, reporting-carried, proper}
use Rattle.rules.proofs.Cases.{each_call}
use Rattle.rules.proofs.Proper.{means, May, Proper, arrived_all}
use Rattle.rules.proofs.Putting.{queued_at}
use Rattle.rules.proofs.Views.{Inv, inv_views}

-- true where the octets are no message
abbrev pub signs : List (List ℕ) → List Bool
signs os = map (λ o. not (is_message (meaning o))) os

take-map : {A B : Type 0} (f : A → B) (n : ℕ) (xs : List A) → take n (map f xs) ≡ map f (take n xs)
take-map f zero xs = refl
take-map f (suc n) [] = refl
take-map f (suc n) (x ∷ xs) = ap (λ m. f x ∷ m) (take-map f n xs)

drop-map : {A B : Type 0} (f : A → B) (n : ℕ) (xs : List A) → drop n (map f xs) ≡ map f (drop n xs)
drop-map f zero xs = refl
drop-map f (suc n) [] = refl
drop-map f (suc n) (x ∷ xs) = drop-map f n xs

pub removed_map : {A B : Type 0} (f : A → B) (xs : List A) (i : ℕ) → remove (map f xs) i ≡ map f (remove xs i)
removed_map f xs i = ap (λ m. m ++ drop (suc i) (map f xs)) (take-map f i xs) ∙ ap (λ m. map f (take i xs) ++ m) (drop-map f (suc i) xs) ∙ sym (map-++ f (take i xs) (drop (suc i) xs))

all_same : {A : Type 0} (b : Bool) (f : A → Bool) (xs : List A) → All (λ x. f x ≡ b) xs → map (λ x. b) xs ≡ map f xs
all_same b f [] h = refl
all_same b f (x ∷ xs) h = ap (λ y. y ∷ map (λ z. b) xs) (sym h.0) ∙ ap (λ y. f x ∷ y) (all_same b f xs h.1)

module _ (p : ℕ) (np : 1 ≤ p) where
  -- what was put at p tells who put it
  abbrev Shown : State → Call → Outcome → Type 0
  Shown s c o = All (λ x. not (is_message (meaning x)) ≡ by_registrar c) (arrived p (puts_of s o))

  less-signs : (s : State) (t : Option Taking) → less_taken p (took s t) (signs (s.line p)) ≡ signs (line_less s.line t p)
  less-signs s None = refl
  less-signs s (Some x) = go (eqb p x.port) refl
    where
      go : (v : Bool) → eqb p x.port ≡ v → cond v (remove (signs (s.line p)) x.place) (signs (s.line p)) ≡ signs (cond v (remove (s.line x.port) x.place) (s.line p))
      go true z = removed_map _ (s.line p) x.place ∙ ap (λ q. signs (remove (s.line q) x.place)) (eqb-true p x.port z)
      go false z = refl

  known_by : (s : State) (c : Call) (o : Outcome) (m : List Bool) → m ≡ signs (s.line p) → Shown s c o
      → less_taken p (took s o.takes) m ++ map (λ x. by_registrar c) (arrived p (puts_of s o)) ≡ signs ((state_by s o).line p)
  known_by s c o m k h =
      ap (λ x. less_taken p (took s o.takes) x ++ map (λ y. by_registrar c) (arrived p (puts_of s o))) k
      ∙ ap (λ x. x ++ map (λ y. by_registrar c) (arrived p (puts_of s o))) (less-signs s o.takes)
      ∙ ap (λ x. signs (line_less s.line o.takes p) ++ x) (all_same (by_registrar c) (λ y. not (is_message (meaning y))) (arrived p (puts_of s o)) h)
      ∙ sym (map-++ _ (line_less s.line o.takes p) (arrived p (puts_of s o)))
      ∙ ap signs (sym (queued_at s.fitting (line_less s.line o.takes) o.sends p))

  -- a request is put elsewhere
  shown_request : (s : State) (c : Call) (v : FrameV) (a : Answer) (ends : ℕ → End) → Shown s c (putting s 0 v a ends)
  shown_request s c v a ends = arrived_all _ p s.fitting s.line (sending 0 (write v) ∷ []) (λ e. absurd (both_ways (eqb p 0) (away p np) e), tt)

  shown_tell : (s : State) (a : Audience) (q x pr cx : ℕ) (body : List ℕ) (b : ℕ) → Proper s → passed (tell_checks s a q x pr cx body b) ≡ true → Shown s (tell a q x pr cx body b) (tell_done s a q x pr cx body)
  shown_tell s a q x pr cx body b ok k = All-weaker _ (λ o. not (is_message (meaning o)) ≡ false) (λ o e. ap not e) _ (copies_arrive s a q x pr cx body b ok k p)

  shown_serve : (s : State) (t a b n : ℕ) → Proper s → Given s (serve t a b) n → passed (serve_checks s t a b) ≡ true → Shown s (serve t a b) (serve_done s t n)
  shown_serve s t a b n ok g k = All-weaker _ (λ o. not (is_message (meaning o)) ≡ true) (λ o e. ap not e) _ (official_arrive s t a b n ok g k p)

  shown_report : (s : State) (q t b : ℕ) → Proper s → passed (report_checks s q t b) ≡ true → Shown s (report q t b) (report_done s q t)
  shown_report s q t b ok k =
      arrived_all _ p s.fitting s.line (sending q (write (reporting s t)) ∷ [])
      (λ e. ap (λ m. not (is_message m)) (means (reporting s t) (reporting-carried s t ok (held (report_checks s q t b) k).1.1.0)), tt)

  abbrev Known : State → Call → List Bool → Outcome → Type 0
  Known s c m o = less_taken p (took s o.takes) m ++ map (λ x. by_registrar c) (arrived p (puts_of s o)) ≡ signs ((state_by s o).line p)

  known_after : (s : State) (c : Call) (n : ℕ) (m : List Bool) → Proper s → Given s c n → m ≡ signs (s.line p) → Known s c m (outcome s c n)
  known_after s c n m ok g k =
      each_call s n (λ x o. Known s x m o) (λ x r. known_by s x (refusing s r) m k tt) (record {
        registers = λ q r t b y. known_by s (register q r t b) (register_done s q r t) m k (shown_request s (register q r t b) (registering s q r t) (Query (s.ends q).next) (register_done s q r t).ends);
        unregisters = λ q t b y. known_by s (unregister q t b) (unregister_done s q t) m k (shown_request s (unregister q t b) (stopping s q t) Done (unregister_done s q t).ends);
        requests = λ j q r x t b y. known_by s (request j q r x t b) (request_done s j q r x t) m k (shown_request s (request j q r x t b) (requesting s j q r x t) Done s.ends);
        tells = λ a q x pr cx body b y. known_by s (tell a q x pr cx body b) (tell_done s a q x pr cx body) m k (shown_tell s a q x pr cx body b ok y);
        receives = λ q b y. known_by s (receive q b) (receive_done s q) m k tt;
        serves = λ t a b z y. known_by s (serve t a b) (serve_done s t n) m k (shown_serve s t a b n ok z y);
        reports = λ q t b y. known_by s (report q t b) (report_done s q t) m k (shown_report s q t b ok y);
        loses = λ q j y. known_by s (lose q j) (lose_done s q j) m k tt;
      }) c g

  -- who put what waits at p
  known : (h : History) (s : State) → Reached s h → makers p h ≡ signs (s.line p)
  known begin s past = sym (ap signs (past.nothing_waits p))
  known (h ▹ e) t past =
      let s : State = past.0 in
      let n : ℕ = past.2.number in
      ap (λ x. less_taken p x.took (makers p h) ++ map (λ o. by_registrar x.call) (arrived p x.puts)) past.2.happens
      ∙ known_after s e.call n (makers p h) (proper h s past.1) past.2.given (known h s past.1)
      ∙ ap (λ (u : State). signs (u.line p)) (sym past.2.becomes)

  start : (s : State) → New s → Holds p np s false
  start s w =
      let fresh : Inv p blank [] [] (place Out blank) w.first false = record {
        sound = blank_whole;
        chain = (tt, tt);
        tied = tt;
        stand = λ v k l. tt;
        agree = λ k. absurd (both_ways false refl k);
      } in
      subst (λ (x : Listing). Inv p x (map meaning (s.line 0)) (map meaning (s.line p)) (place (s.ends p).standing (s.ends p).view) (s.ends p).next false) (sym w.no_book)
      (subst (λ x. Inv p blank (map meaning x) (map meaning (s.line p)) (place (s.ends p).standing (s.ends p).view) (s.ends p).next false) (sym (w.nothing_waits 0))
      (subst (λ x. Inv p blank [] (map meaning x) (place (s.ends p).standing (s.ends p).view) (s.ends p).next false) (sym (w.nothing_waits p))
      (subst (λ (x : End). Inv p blank [] [] (place x.standing x.view) x.next false) (sym (w.all_out p)) fresh)))

  holds : (h : History) (s : State) → Reached s h → Holds p np s (clean p h)
  holds begin s past = start s past
  holds (h ▹ e) t past =
      let s : State = past.0 in
      let n : ℕ = past.2.number in
      subst (λ (u : State). Holds p np u (clean p (h ▹ e))) (sym past.2.becomes)
      (subst (λ (x : Event). Holds p np (after s e.call n) (cleaned p np (makers p h) x (clean p h))) (sym past.2.happens)
      (holds_after p np s e.call n (makers p h) (clean p h) (proper h s past.1) past.2.given (known h s past.1) (holds h s past.1)))

  -- to leave the messages out of the reading makes no difference
  official-reading : (e : Place) (os : List (List ℕ)) → reading p e (map meaning (official (signs os) os)) ≡ reading p e (map meaning os)
  official-reading e [] = refl
  official-reading e (o ∷ os) = go (is_message (meaning o)) refl (λ x. official-reading x os)
    where
      go : (v : Bool) → is_message (meaning o) ≡ v → ((x : Place) → reading p x (map meaning (official (signs os) os)) ≡ reading p x (map meaning os))
          → reading p e (map meaning (cond (not v) (o ∷ official (signs os) os) (official (signs os) os))) ≡ reading p e (meaning o ∷ map meaning os)
      go true z ih = ih e ∙ sym (reading-without p e [] (meaning o) (map meaning os) z)
      go false z ih = ih (reads p e.standing e.view (meaning o))

-- an end that is in is at one of the fifteen ports
inside_port : (p n r : ℕ) (st : Standing) → May p st → st ≡ In n r → 1 ≤ p
inside_port p n r st m e = let k : May p (In n r) = subst (May p) e m in low_part 1 15 p (member_parts (member_of n r p) k).2

pub views_agree : ViewsAgree
views_agree h s past p n r i =
    let np : 1 ≤ p = inside_port p n r (s.ends p).standing ((proper h s past).ends p).may i.inside in
    ap (λ m. reading p (place (s.ends p).standing (s.ends p).view) (map meaning (official m (s.line p)))) (known p np h s past)
    ∙ official-reading p np (place (s.ends p).standing (s.ends p).view) (s.line p)
    ∙ inv_views _ _ _ _ _ _ _ (holds p np h s past) n r i.inside i.gives i.whole
