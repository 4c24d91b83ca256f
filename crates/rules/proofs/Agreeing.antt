-- Every call keeps the invariant of every port. Assumes nothing.
use Rattle.std.proofs.Common.{◌≡◌, ℕ, zero, suc, ◌-◌, ◌<◌, ◌≤◌, Bool, true, false, cond, not, ◌&&◌, ◌||◌, eqb, ltb, leb, List, [], ◌∷◌, ◌++◌, map, length, get_or, take, drop, sym, refl, ap, ◌∙◌, subst, arith, take-append-drop, drop-cons}
use Rattle.std.specs.List.{remove, AllByRecursion as All}
use Rattle.std.proofs.ByRecursion.{All-get_or, All-map, All-weaker}
use Rattle.std.proofs.lemmas.Bool.{and_parts, cond_both, cond-true, cond-false, eqb-true, ne_eqb, ltb-true, leb-true}
use Rattle.words.specs.declared.member.Member.{Member}
use Rattle.words.specs.Records.{applicant_of, valid_member}
use Rattle.wire.specs.declared.frame.RuleChange.{RuleChange}
use Rattle.wire.specs.Frames.{FrameV}
use Rattle.wire.specs.Writes.{write, carried}
use Rattle.line.specs.Lines.{Waiting, admits, added}
use Rattle.book.specs.declared.audience.Audience.{Audience}
use Rattle.book.specs.Matching.{some}
use Rattle.rules.specs.declared.answer.Answer.{Answer}
use Rattle.rules.specs.declared.answer.Answer.TheVariants.{Done, Query}
use Rattle.rules.specs.declared.refusal.Refusal.{Refusal}
use Rattle.rules.specs.declared.request.Request.{Request}
use Rattle.rules.specs.declared.request.Request.TheVariants.{Subscribe, Unsubscribe, Invite, Disinvite}
use Rattle.rules.specs.declared.standing.Standing.TheVariants.{Out, Asked}
use Rattle.rules.specs.Codes.{served_missed}
use Rattle.rules.specs.Listings.{Listing, blank}
use Rattle.rules.specs.Meanings.{Meaning, rejects, dead, changes, applies, welcomes, reports, carries, garbled, said, meaning, is_message, is_full}
use Rattle.rules.specs.Ends.{Place, place, gone, reads}
use Rattle.rules.specs.Registrar.{Deed, Numbered, served, booked, told, Sending, sending, dispatch}
use Rattle.line.specs.Laws.{in_mask}
use Rattle.rules.specs.Puts.{Put, offers, queued, arrived, missed_mask}
use Rattle.rules.specs.Calls.{End, end, State, Call, register, unregister, request, tell, receive, serve, report, lose, Outcome, refusing, passed, putting, registering, register_checks, register_done, stopping, unregister_checks, unregister_done, request_frame, requesting, request_checks, request_done, copy_for, copies, tell_checks, tell_done, frame_at, receive_checks, receive_done, read_by, serve_checks, serve_done, deed_of, reporting, report_checks, report_done, lose_checks, lose_done, Given, Event, line_less, puts_of, event_by, state_by, event, after}
use Rattle.rules.specs.Promises.{by_registrar, by_lose, mask_answered, left_out, full_put, lost_there}
use Rattle.rules.proofs.Cases.{each_call}
use Rattle.rules.proofs.Carried.{Sane, member_port, low_part, sane_octets, seats_right}
use Rattle.rules.proofs.Dispatch.{Posted, deed_posted, few_sent, sent-mail, served_masked, listing_again}
use Rattle.rules.proofs.Kept.{held, registering-carried, stopping-carried, requesting-carried, copy_carried, recipients_valid, written_at, reporting-carried}
use Rattle.line.proofs.Masks.{in_none}
use Rattle.rules.proofs.Proper.{Written, means, Proper, arrived_all, taken_there}
use Rattle.rules.proofs.Putting.{sent, missed_at, sent_none, one_put, put_one, queued_at, queued_none, queued_one}
use Rattle.rules.proofs.Queries.{reg_of}
use Rattle.rules.proofs.Views.{Inv, Seats, inv_request, inv_register, inv_out, inv_messages, inv_report, inv_receive, inv_lose, inv_miss, inv_serve}

pub map-++ : {A B : Type 0} (f : A → B) (a b : List A) → map f (a ++ b) ≡ map f a ++ map f b
map-++ f [] b = refl
map-++ f (x ∷ a) b = ap (λ m. f x ∷ m) (map-++ f a b)

-- what a mapped list has at a place
pub get_or_map_within : {A B : Type 0} (f : A → B) (xs : List A) (i : ℕ) (x : A) (y : B) → i < length xs → get_or (map f xs) i y ≡ f (get_or xs i x)
get_or_map_within f [] i x y l = absurd (omega arith)
get_or_map_within f (z ∷ xs) zero x y l = refl
get_or_map_within f (z ∷ xs) (suc i) x y l = get_or_map_within f xs i x y (omega arith)

-- what a list has at a place is between what comes before and behind it
pub split_at : {A : Type 0} (xs : List A) (i : ℕ) (x : A) → i < length xs → xs ≡ take i xs ++ (get_or xs i x ∷ drop (suc i) xs)
split_at xs i x l = sym (take-append-drop i xs) ∙ ap (λ y. take i xs ++ y) (drop-cons xs i x l)

pub some_map : {A B : Type 0} (g : B → Bool) (f : A → B) (a : List A) → some (λ x. g (f x)) a ≡ some g (map f a)
some_map g f [] = refl
some_map g f (x ∷ a) = ap (λ m. g (f x) || m) (some_map g f a)

pub and_false : (b : Bool) → (b && false) ≡ false
and_false true = refl
and_false false = refl

and_left_false : (a b : Bool) → a ≡ false → (a && b) ≡ false
and_left_false a b e = ap (λ x. x && b) e

request_no_reg : (p : ℕ) (k : Request) (c : RuleChange) → reg_of p (said (request_frame k c)) ≡ []
request_no_reg p Subscribe c = refl
request_no_reg p Unsubscribe c = refl
request_no_reg p Invite c = refl
request_no_reg p Disinvite c = refl

-- a served frame was written, and is no message
pub served_written : (s : State) (t a b : ℕ) → Proper s → passed (serve_checks s t a b) ≡ true → Written (frame_at s 0 0)
served_written s t a b ok k = written_at s 0 0 ok (held (serve_checks s t a b) k).1.1.1.0

pub served_posted : (s : State) (t a b n : ℕ) → Proper s → Given s (serve t a b) n → passed (serve_checks s t a b) ≡ true → Posted t (frame_at s 0 0) (deed_of s t n)
served_posted s t a b n ok g k =
    let c = held (serve_checks s t a b) k in
    let o : List ℕ = frame_at s 0 0 in
    let dull : is_message (meaning o) ≡ false = All-get_or (λ x. is_message (meaning x) ≡ false) (s.line 0) 0 [] (ltb-true 0 (length (s.line 0)) c.1.1.1.0) ok.requests in
    deed_posted s.book t (meaning o) s.last n o ok.book c.1.1.0 dull (sane_octets o (served_written s t a b ok k)) (g k)

-- copies are messages, and none is for the registrar
pub copies_there : (s : State) (a : Audience) (q x pr cx : ℕ) (body : List ℕ) (b : ℕ) → Proper s → passed (tell_checks s a q x pr cx body b) ≡ true
    → All (λ (y : Sending). (is_message (meaning y.octets) ≡ true) × (eqb 0 y.port ≡ false)) (copies s a q x pr cx body)
copies_there s a q x pr cx body b ok k = go _ (recipients_valid s a q x ok)
  where
    go : (ms : List Member) → All (λ y. valid_member y ≡ true) ms → All (λ (y : Sending). (is_message (meaning y.octets) ≡ true) × (eqb 0 y.port ≡ false)) (map (λ y. sending y.port (write (copy_for s a q x pr cx body y))) ms)
    go [] v = tt
    go (y ∷ ms) v =
        ((ap is_message (means (copy_for s a q x pr cx body y) (copy_carried s a q x pr cx body b y ok k v.0)), ne_eqb 0 y.port (λ z. omega (arith, low_part 1 15 y.port (member_port y v.0)))), go ms v.1)

pub copies_arrive : (s : State) (a : Audience) (q x pr cx : ℕ) (body : List ℕ) (b : ℕ) → Proper s → passed (tell_checks s a q x pr cx body b) ≡ true → (p : ℕ)
    → All (λ o. is_message (meaning o) ≡ true) (arrived p (offers s.fitting s.line (copies s a q x pr cx body)))
copies_arrive s a q x pr cx body b ok k p =
    arrived_all (λ o. is_message (meaning o) ≡ true) p s.fitting s.line (copies s a q x pr cx body)
    (All-weaker (λ (y : Sending). (is_message (meaning y.octets) ≡ true) × (eqb 0 y.port ≡ false)) (λ (y : Sending). eqb p y.port ≡ true → is_message (meaning y.octets) ≡ true) (λ y z e. z.0) (copies s a q x pr cx body) (copies_there s a q x pr cx body b ok k))

pub copies_away : (s : State) (a : Audience) (q x pr cx : ℕ) (body : List ℕ) (b : ℕ) → Proper s → passed (tell_checks s a q x pr cx body b) ≡ true → sent 0 (copies s a q x pr cx body) ≡ []
copies_away s a q x pr cx body b ok k =
    sent_none (copies s a q x pr cx body) 0
    (All-weaker (λ (y : Sending). (is_message (meaning y.octets) ≡ true) × (eqb 0 y.port ≡ false)) (λ (y : Sending). eqb 0 y.port ≡ false) (λ y z. z.1) (copies s a q x pr cx body) (copies_there s a q x pr cx body b ok k))

all_unmap : {A B : Type 0} (P : B → Type 0) (f : A → B) (xs : List A) → All P (map f xs) → All (λ x. P (f x)) xs
all_unmap P f [] h = tt
all_unmap P f (x ∷ xs) h = (h.0, all_unmap P f xs h.1)

-- what a serve puts is no message
pub official_arrive : (s : State) (t a b n : ℕ) → Proper s → Given s (serve t a b) n → passed (serve_checks s t a b) ≡ true → (p : ℕ) → All (λ o. is_message (meaning o) ≡ false) (arrived p (puts_of s (serve_done s t n)))
official_arrive s t a b n ok g k p =
    let o : List ℕ = frame_at s 0 0 in
    let post = served_posted s t a b n ok g k in
    let tells = ap (map meaning) (sent-mail (deed_of s t n) t o p post.whole) ∙ post.means_so p in
    let plain : All (λ x. is_message (meaning x) ≡ false) (sent p (dispatch (deed_of s t n) t o)) = all_unmap (λ m. is_message m ≡ false) meaning _ (subst (All (λ m. is_message m ≡ false)) (sym tells) (post.official p)) in
    subst (All (λ x. is_message (meaning x) ≡ false)) (sym (one_put s.fitting (line_less s.line (serve_done s t n).takes) (dispatch (deed_of s t n) t o) p (few_sent (deed_of s t n) t o p post.whole)))
    (cond_both (missed_at p (puts_of s (serve_done s t n))) _ _ (All (λ x. is_message (meaning x) ≡ false)) (λ e. tt) (λ e. plain))

module _ (p : ℕ) (np : 1 ≤ p) where
  pub away : eqb p 0 ≡ false
  away = ne_eqb p 0 (λ z. omega arith)

  abbrev pub Holds : State → Bool → Type 0
  Holds s c = Inv p s.book (map meaning (s.line 0)) (map meaning (s.line p)) (place (s.ends p).standing (s.ends p).view) (s.ends p).next c

  -- whether p is clean after the call e, m telling who put what waits there
  abbrev pub cleaned : List Bool → Event → Bool → Bool
  cleaned m e c = cond (left_out p e || lost_there p m e) false (full_put p e || c)

  calm : (m : List Bool) (e : Event) (c : Bool) → mask_answered e.answer ≡ 0 → lost_there p m e ≡ false → full_put p e ≡ false → c ≡ cleaned m e c
  calm m e c a l f =
      sym (ap (λ x. cond (in_mask x p || lost_there p m e) false (full_put p e || c)) a
      ∙ ap (λ x. cond (x || lost_there p m e) false (full_put p e || c)) (in_none p)
      ∙ ap (λ x. cond x false (full_put p e || c)) l
      ∙ ap (λ x. x || c) f)

  move : {b : Listing} {i j w x : List Meaning} {e : Place} {n : ℕ} {c d : Bool} → i ≡ j → w ≡ x → c ≡ d → Inv p b i w e n c → Inv p b j x e n d
  move {b} {i} {j} {w} {x} {e} {n} {c} {d} y z u h = subst (λ k. Inv p b j x e n k) u (subst (λ k. Inv p b k x e n c) y (subst (λ k. Inv p b i k e n c) z h))

  abbrev After : State → Call → List Bool → Bool → Outcome → Type 0
  After s c m d o = Holds (state_by s o) (cleaned m (event_by s c o) d)

  refused : (s : State) (c : Call) (m : List Bool) (d : Bool) (r : Refusal) → Holds s d → After s c m d (refusing s r)
  refused s c m d r h = move refl refl (calm m (event_by s c (refusing s r)) d refl (and_false (by_lose c)) (and_false (by_registrar c))) h

  -- a request is put at the registrar's port
  requested : (s : State) (c : Call) (m : List Bool) (d : Bool) (v : FrameV) (a : Answer) (ends : ℕ → End) → admits s.fitting s.line 0 (length (write v)) ≡ true → carried v ≡ true
      → mask_answered a ≡ 0 → by_lose c ≡ false → by_registrar c ≡ false
      → Inv p s.book (map meaning (s.line 0) ++ (said v ∷ [])) (map meaning (s.line p)) (place (ends p).standing (ends p).view) (ends p).next d
      → After s c m d (putting s 0 v a ends)
  requested s c m d v a ends fits k z l r h =
      let w : queued s.fitting s.line (sending 0 (write v) ∷ []) ≡ added s.line 0 (write v) = put_one s.fitting s.line 0 (write v) fits in
      move (ap (λ x. map meaning (s.line 0) ++ (x ∷ [])) (sym (means v k)) ∙ sym (map-++ meaning (s.line 0) (write v ∷ [])) ∙ ap (λ f. map meaning (f 0)) (sym w))
      (ap (map meaning) (sym (cond-false (eqb p 0) _ (s.line p) away)) ∙ ap (λ f. map meaning (f p)) (sym w))
      (calm m (event_by s c (putting s 0 v a ends)) d z (and_left_false (by_lose c) _ l) (and_left_false (by_registrar c) _ r))
      h

  hold_register : (s : State) (q r t b : ℕ) (m : List Bool) (d : Bool) → Proper s → Holds s d → passed (register_checks s q r t b) ≡ true → After s (register q r t b) m d (register_done s q r t)
  hold_register s q r t b m d ok h k =
      requested s (register q r t b) m d (registering s q r t) (Query (s.ends q).next) (register_done s q r t).ends (held (register_checks s q r t b) k).1.1.1.1.1.0 (registering-carried s q r t b ok k) refl refl refl (go (eqb p q) refl)
    where
      new : End
      new = end (Asked r (s.ends q).next) blank (suc (s.ends q).next)

      go : (v : Bool) → eqb p q ≡ v → Inv p s.book (map meaning (s.line 0) ++ (applies (s.ends q).next (applicant_of r q) ∷ [])) (map meaning (s.line p))
          (place (cond v new (s.ends p)).standing (cond v new (s.ends p)).view) (cond v new (s.ends p)).next d
      go true z =
          subst (λ x. Inv p s.book (map meaning (s.line 0) ++ (applies (s.ends x).next (applicant_of r x) ∷ [])) (map meaning (s.line p)) (place (Asked r (s.ends x).next) blank) (suc (s.ends x).next) d)
          (eqb-true p q z) (inv_register _ _ _ _ _ _ _ h r)
      go false z = inv_request _ _ _ _ _ _ _ h (applies (s.ends q).next (applicant_of r q)) (cond-false (eqb p q) _ _ z)

  hold_unregister : (s : State) (q t b : ℕ) (m : List Bool) (d : Bool) → Proper s → Holds s d → passed (unregister_checks s q t b) ≡ true → After s (unregister q t b) m d (unregister_done s q t)
  hold_unregister s q t b m d ok h k =
      requested s (unregister q t b) m d (stopping s q t) Done (unregister_done s q t).ends (held (unregister_checks s q t b) k).1.1.1.1.0 (stopping-carried s q t b ok k) refl refl refl (go (eqb p q) refl)
    where
      new : End
      new = end Out blank (s.ends q).next

      go : (v : Bool) → eqb p q ≡ v → Inv p s.book (map meaning (s.line 0) ++ (said (stopping s q t) ∷ [])) (map meaning (s.line p))
          (place (cond v new (s.ends p)).standing (cond v new (s.ends p)).view) (cond v new (s.ends p)).next d
      go true z =
          subst (λ x. Inv p s.book (map meaning (s.line 0) ++ (said (stopping s q t) ∷ [])) (map meaning (s.line p)) gone (s.ends x).next d)
          (eqb-true p q z) (inv_request _ _ _ _ _ _ _ (inv_out _ _ _ _ _ _ _ h) (said (stopping s q t)) refl)
      go false z = inv_request _ _ _ _ _ _ _ h (said (stopping s q t)) refl

  hold_request : (s : State) (k : Request) (q r x t b : ℕ) (m : List Bool) (d : Bool) → Proper s → Holds s d → passed (request_checks s k q r x t b) ≡ true → After s (request k q r x t b) m d (request_done s k q r x t)
  hold_request s k q r x t b m d ok h y =
      requested s (request k q r x t b) m d (requesting s k q r x t) Done s.ends (held (request_checks s k q r x t b) y).1.1.1.1.0 (requesting-carried s k q r x t b ok y) refl refl refl
      (inv_request _ _ _ _ _ _ _ h (said (requesting s k q r x t)) (request_no_reg p k _))

  -- copies are put at the ports of members, and are messages
  hold_tell : (s : State) (a : Audience) (q x pr cx : ℕ) (body : List ℕ) (b : ℕ) (m : List Bool) (d : Bool) → Holds s d
      → sent 0 (copies s a q x pr cx body) ≡ [] → All (λ o. is_message (meaning o) ≡ true) (arrived p (offers s.fitting s.line (copies s a q x pr cx body)))
      → After s (tell a q x pr cx body b) m d (tell_done s a q x pr cx body)
  hold_tell s a q x pr cx body b m d h none k =
      let xs : List Sending = copies s a q x pr cx body in
      let came : List (List ℕ) = arrived p (offers s.fitting s.line xs) in
      move (ap (map meaning) (sym (queued_none s.fitting s.line xs 0 none)))
      (sym (map-++ meaning (s.line p) came) ∙ ap (map meaning) (sym (queued_at s.fitting s.line xs p)))
      (calm m (event_by s (tell a q x pr cx body b) (tell_done s a q x pr cx body)) d refl refl refl)
      (inv_messages _ _ _ _ _ _ _ h (map meaning came) (All-map (λ y. is_message y ≡ true) meaning came k))

  hold_receive : (s : State) (q b : ℕ) (m : List Bool) (d : Bool) → Holds s d → passed (receive_checks s q b) ≡ true → After s (receive q b) m d (receive_done s q)
  hold_receive s q b m d h k =
      let c = held (receive_checks s q b) k in
      let far : eqb 0 q ≡ false = ne_eqb 0 q (λ z. omega (arith, low_part 1 15 q c.1.0)) in
      move (ap (map meaning) (sym (cond-false (eqb 0 q) _ (s.line 0) far))) refl (calm m (event_by s (receive q b) (receive_done s q)) d refl refl refl) (go c.1.1.0 (eqb p q) refl)
    where
      o : List ℕ
      o = frame_at s q 0

      new : End
      new = end (read_by s q o).standing (read_by s q o).view (s.ends q).next

      go : ltb 0 (length (s.line q)) ≡ true → (v : Bool) → eqb p q ≡ v → Inv p s.book (map meaning (s.line 0)) (map meaning (cond v (remove (s.line q) 0) (s.line p)))
          (place (cond v new (s.ends p)).standing (cond v new (s.ends p)).view) (cond v new (s.ends p)).next d
      go l true z =
          subst (λ x. Inv p s.book (map meaning (s.line 0)) (map meaning (remove (s.line q) 0)) (reads x (s.ends x).standing (s.ends x).view (meaning o)) (s.ends x).next d)
          (eqb-true p q z) (inv_receive _ _ _ _ _ _ _ h (meaning o) (map meaning (remove (s.line q) 0)) (ap (λ x. map meaning (s.line x)) (eqb-true p q z) ∙ ap (map meaning) (taken_there (s.line q) [] l)))
      go l false z = h

  hold_report : (s : State) (q t b : ℕ) (m : List Bool) (d : Bool) → Proper s → Holds s d → passed (report_checks s q t b) ≡ true → After s (report q t b) m d (report_done s q t)
  hold_report s q t b m d ok h k =
      let c = held (report_checks s q t b) k in
      let far : eqb 0 q ≡ false = ne_eqb 0 q (λ z. omega (arith, low_part 1 15 q c.1.0)) in
      let fits = c.1.1.1.1.0 in
      let w : queued s.fitting s.line (sending q (write (reporting s t)) ∷ []) ≡ added s.line q (write (reporting s t)) = put_one s.fitting s.line q (write (reporting s t)) fits in
      let says : meaning (write (reporting s t)) ≡ reports s.book = means (reporting s t) (reporting-carried s t ok c.1.1.0) ∙ ap reports (listing_again s.book ok.book) in
      move (ap (map meaning) (sym (cond-false (eqb 0 q) _ (s.line 0) far)) ∙ ap (λ f. map meaning (f 0)) (sym w)) (ap (λ f. map meaning (f p)) (sym w)) (clean_now fits says) (go (eqb p q) refl says)
    where
      o : List ℕ
      o = write (reporting s t)

      clean_now : admits s.fitting s.line q (length o) ≡ true → meaning o ≡ reports s.book → eqb p q || d ≡ cleaned m (event_by s (report q t b) (report_done s q t)) d
      clean_now fits says =
          sym (ap (λ x. cond (x || false) false (some (λ y. is_full (meaning y)) (cond (eqb p q && admits s.fitting s.line q (length o)) (o ∷ []) []) || d)) (in_none p)
          ∙ ap (λ x. some (λ y. is_full (meaning y)) (cond (eqb p q && x) (o ∷ []) []) || d) fits ∙ full (eqb p q))
        where
          full : (v : Bool) → some (λ y. is_full (meaning y)) (cond (v && true) (o ∷ []) []) || d ≡ v || d
          full true = ap (λ x. (is_full x || false) || d) says
          full false = refl

      go : (v : Bool) → eqb p q ≡ v → meaning o ≡ reports s.book → Inv p s.book (map meaning (s.line 0)) (map meaning (cond v (s.line q ++ (o ∷ [])) (s.line p))) (place (s.ends p).standing (s.ends p).view) (s.ends p).next (v || d)
      go true z says =
          move refl (ap (λ x. map meaning (s.line x) ++ (reports s.book ∷ [])) (eqb-true p q z) ∙ ap (λ x. map meaning (s.line q) ++ (x ∷ [])) (sym says) ∙ sym (map-++ meaning (s.line q) (o ∷ []))) refl
          (inv_report _ _ _ _ _ _ _ h)
      go false z says = h

  hold_lose : (s : State) (q k : ℕ) (m : List Bool) (d : Bool) → m ≡ map (λ o. not (is_message (meaning o))) (s.line p) → Holds s d → passed (lose_checks s q k) ≡ true → After s (lose q k) m d (lose_done s q k)
  hold_lose s q k m d known h y =
      let c = held (lose_checks s q k) y in
      let e = and_parts (ltb 0 k) (leb k (length (s.line q))) c.1.0 in
      let low = ltb-true 0 k e.0 in
      let high = leb-true k (length (s.line q)) e.1 in
      go (omega arith) (eqb p q) refl
    where
      i : ℕ
      i = k - 1

      o : List ℕ
      o = frame_at s q i

      zero_or : i < length (s.line q) → (v : Bool) → eqb 0 q ≡ v → Inv p s.book (map meaning (cond v (remove (s.line q) i) (s.line 0))) (map meaning (s.line p)) (place (s.ends p).standing (s.ends p).view) (s.ends p).next d
      zero_or l true z =
          move (sym (map-++ meaning (take i (s.line q)) (drop (suc i) (s.line q)))) refl refl
          (inv_miss _ _ _ _ _ _ _ h (map meaning (take i (s.line q))) (meaning o) (map meaning (drop (suc i) (s.line q)))
          (ap (λ x. map meaning (s.line x)) (eqb-true 0 q z) ∙ ap (map meaning) (split_at (s.line q) i [] l) ∙ map-++ meaning (take i (s.line q)) (o ∷ drop (suc i) (s.line q))))
      zero_or l false z = h

      marked : eqb p q ≡ true → i < length (s.line q) → not (is_message (meaning o)) ≡ get_or m i false
      marked z l =
          sym (ap (λ x. get_or x i false) (known ∙ ap (λ x. map (λ y. not (is_message (meaning y))) (s.line x)) (eqb-true p q z)) ∙ get_or_map_within (λ y. not (is_message (meaning y))) (s.line q) i [] false l)

      goal_clean : (v : Bool) → eqb p q ≡ v → cond (v && get_or m i false) false d ≡ cleaned m (event_by s (lose q k) (lose_done s q k)) d
      goal_clean v z =
          sym (ap (λ x. cond (x || (eqb p q && get_or m i false)) false d) (in_none p) ∙ ap (λ x. cond (x && get_or m i false) false d) z)

      go : i < length (s.line q) → (v : Bool) → eqb p q ≡ v → After s (lose q k) m d (lose_done s q k)
      go l true z =
          let here : s.line p ≡ s.line q = ap s.line (eqb-true p q z) in
          let far : eqb 0 q ≡ false = ne_eqb 0 q (λ x. omega (arith, eqb-true p q z)) in
          move (ap (map meaning) (sym (cond-false (eqb 0 q) _ (s.line 0) far)))
          (sym (map-++ meaning (take i (s.line q)) (drop (suc i) (s.line q))) ∙ ap (map meaning) (sym (cond-true (eqb p q) _ (s.line p) z)))
          (ap (λ x. cond x false d) (marked z l) ∙ goal_clean true z)
          (inv_lose _ _ _ _ _ _ _ h (map meaning (take i (s.line q))) (meaning o) (map meaning (drop (suc i) (s.line q)))
          (ap (map meaning) (here ∙ split_at (s.line q) i [] l) ∙ map-++ meaning (take i (s.line q)) (o ∷ drop (suc i) (s.line q))))
      go l false z =
          move refl (ap (map meaning) (sym (cond-false (eqb p q) _ (s.line p) z))) (goal_clean false z) (zero_or l (eqb 0 q) refl)

  -- what a served registration is given may stand
  seats : (l : ℕ) (b : Listing) (x : Meaning) (n : ℕ) → Sane x → Numbered l b x n → Seats x n
  seats l b (rejects f y) n h g = tt
  seats l b (dead y) n h g = tt
  seats l b (changes c) n h g = tt
  seats l b (applies q a) n h g = seats_right q a l n _ h g
  seats l b (welcomes q w v) n h g = tt
  seats l b (reports v) n h g = tt
  seats l b (carries y o) n h g = tt
  seats l b (garbled e) n h g = tt

  hold_serve : (s : State) (t a b n : ℕ) (m : List Bool) (d : Bool) → Proper s → Given s (serve t a b) n → Holds s d → passed (serve_checks s t a b) ≡ true → After s (serve t a b) m d (serve_done s t n)
  hold_serve s t a b n m d ok g h k =
      let c = held (serve_checks s t a b) k in
      let sn : Sane (meaning o) = sane_octets o (served_written s t a b ok k) in
      finish (served_posted s t a b n ok g k)
      (inv_serve _ _ _ _ _ _ _ h t (meaning o) (map meaning (remove (s.line 0) 0)) n left (ap (map meaning) (taken_there (s.line 0) [] c.1.1.1.0)) (seats s.last s.book (meaning o) n sn (g k)))
    where
      o : List ℕ
      o = frame_at s 0 0

      dd : Deed
      dd = deed_of s t n

      w : Waiting
      w = line_less s.line (serve_done s t n).takes

      xs : List Sending
      xs = dispatch dd t o

      ps : List Put
      ps = offers s.fitting w xs

      left : Bool
      left = missed_at p ps

      here : w p ≡ s.line p
      here = cond-false (eqb p 0) _ (s.line p) away

      -- what p is told is what was sent there
      lines : (v : Bool) → map meaning (sent p xs) ≡ told dd (meaning o) p → cond v (map meaning (s.line p)) (map meaning (s.line p) ++ told dd (meaning o) p) ≡ map meaning (cond v (w p) (w p ++ sent p xs))
      lines true e = ap (map meaning) (sym here)
      lines false e = ap (λ x. map meaning (s.line p) ++ x) (sym e) ∙ sym (map-++ meaning (s.line p) (sent p xs)) ∙ ap (λ x. map meaning (x ++ sent p xs)) (sym here)

      fulls : (v : Bool) → map meaning (sent p xs) ≡ told dd (meaning o) p
          → cond v false (some is_full (told dd (meaning o) p) || d) ≡ cond (v || false) false (some (λ x. is_full (meaning x)) (cond v [] (sent p xs)) || d)
      fulls true e = refl
      fulls false e = ap (λ x. x || d) (ap (some is_full) (sym e) ∙ sym (some_map is_full meaning (sent p xs)))

      finish : Posted t o dd
          → Inv p (booked s.book dd) (map meaning (remove (s.line 0) 0)) (cond left (map meaning (s.line p)) (map meaning (s.line p) ++ told dd (meaning o) p)) (place (s.ends p).standing (s.ends p).view) (s.ends p).next (cond left false (some is_full (told dd (meaning o) p) || d))
          → After s (serve t a b) m d (serve_done s t n)
      finish post inv =
          let few = few_sent dd t o p post.whole in
          let tells : map meaning (sent p xs) ≡ told dd (meaning o) p = ap (map meaning) (sent-mail dd t o p post.whole) ∙ post.means_so p in
          let mask : in_mask (served_missed (served s.book (meaning o) (missed_mask ps))) p ≡ left = served_masked s.fitting w t o p s.book (meaning o) n post in
          move (ap (map meaning) (sym (queued_none s.fitting w xs 0 post.away)))
          (lines left tells ∙ ap (map meaning) (sym (queued_one s.fitting w xs p few)))
          (fulls left tells ∙ ap (λ x. cond (left || false) false (some (λ y. is_full (meaning y)) x || d)) (sym (one_put s.fitting w xs p few)) ∙ ap (λ x. cond (x || false) false (some (λ y. is_full (meaning y)) (arrived p ps) || d)) (sym mask))
          inv

  hold_told : (s : State) (a : Audience) (q x pr cx : ℕ) (body : List ℕ) (b : ℕ) (m : List Bool) (d : Bool) → Proper s → Holds s d → passed (tell_checks s a q x pr cx body b) ≡ true
      → After s (tell a q x pr cx body b) m d (tell_done s a q x pr cx body)
  hold_told s a q x pr cx body b m d ok h k =
      hold_tell s a q x pr cx body b m d h (copies_away s a q x pr cx body b ok k) (copies_arrive s a q x pr cx body b ok k p)

  -- one call more
  pub holds_after : (s : State) (c : Call) (n : ℕ) (m : List Bool) (d : Bool) → Proper s → Given s c n → m ≡ map (λ o. not (is_message (meaning o))) (s.line p) → Holds s d → Holds (after s c n) (cleaned m (event s c n) d)
  holds_after s c n m d ok g k h =
      each_call s n (λ x o. After s x m d o) (λ x r. refused s x m d r h) (record {
        registers = λ q r t b. hold_register s q r t b m d ok h;
        unregisters = λ q t b. hold_unregister s q t b m d ok h;
        requests = λ j q r x t b. hold_request s j q r x t b m d ok h;
        tells = λ a q x pr cx body b. hold_told s a q x pr cx body b m d ok h;
        receives = λ q b. hold_receive s q b m d h;
        serves = λ t a b y. hold_serve s t a b n m d ok y h;
        reports = λ q t b. hold_report s q t b m d ok h;
        loses = λ q j. hold_lose s q j m d k h;
      }) c g
