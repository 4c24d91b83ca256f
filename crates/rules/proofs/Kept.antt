-- Every call leaves a proper state. Assumes nothing.
use Rattle.std.proofs.Common.{◌≡◌, ℕ, suc, Bool, true, false, ◌&&◌, eqb, ltb, leb, List, [], ◌∷◌, map, length, sym, refl, subst, arith}
use Rattle.std.specs.List.{AllByRecursion as All}
use Rattle.std.proofs.ByRecursion.{All-get_or, all_kept_by}
use Rattle.std.proofs.lemmas.Bool.{both_ways, and_from, and_parts, cond_both, eqb-true, eq-eqb, le-leb, ltb-true}
use Rattle.words.specs.declared.member.Member.{Member}
use Rattle.words.specs.declared.rule_kind.RuleKind.{RuleKind}
use Rattle.words.specs.declared.rule_kind.RuleKind.TheVariants.{Subscription, Invitation}
use Rattle.words.specs.Ranges.{within}
use Rattle.words.specs.Records.{rule_of, member_of, valid_member}
use Rattle.wire.specs.declared.frame.RuleChange.{RuleChange}
use Rattle.wire.specs.Writes.{write, carried, change_carried, same_kind, in_time}
use Rattle.book.specs.declared.audience.Audience.{Audience}
use Rattle.book.specs.Matching.{recipients}
use Rattle.book.specs.Sound.{each}
use Rattle.book.proofs.Writing.{written_sound}
use Rattle.rules.specs.declared.refusal.Refusal.{Refusal}
use Rattle.rules.specs.declared.request.Request.{Request}
use Rattle.rules.specs.declared.request.Request.TheVariants.{Subscribe, Unsubscribe, Invite, Disinvite}
use Rattle.rules.specs.declared.standing.Standing.{Standing}
use Rattle.rules.specs.declared.standing.Standing.TheVariants.{Out, Asked, In}
use Rattle.rules.specs.Listings.{Listing, blank, has, Whole}
use Rattle.rules.specs.Meanings.{Meaning, rejects, dead, changes, applies, welcomes, reports, carries, garbled, said, meaning, is_message}
use Rattle.rules.specs.Ends.{Place, names, answers, reads}
use Rattle.rules.specs.Registrar.{sending}
use Rattle.rules.specs.Calls.{end, State, Call, serve, passed, is_in, self, member_by, registering, register_checks, stopping, unregister_checks, kind_asked, request_frame, requesting, request_checks, audience_right, sender, copy_for, tell_checks, frame_at, receive_checks, read_by, serve_checks, reporting, report_checks, Given, state_by, after, register_done, unregister_done, request_done, tell_done, receive_done, serve_done, report_done, lose_done}
use Rattle.rules.proofs.Books.{blank_whole, applied_whole}
use Rattle.rules.specs.Runs.{History, begin, ◌▹◌, New, Reached}
use Rattle.rules.proofs.Carried.{Sane, sane_octets, to_end, to_registrar, member_parts, member_port, deed_sends, deed-booked}
use Rattle.rules.proofs.Cases.{each_call}
use Rattle.rules.proofs.Proper.{Written, May, ProperEnd, Proper, Mailable, proper_by, proper_refused, proper_at}

-- all the checks that a call passed
pub held : (cs : List (Bool × Refusal)) → passed cs ≡ true → All (λ (c : Bool × Refusal). c.0 ≡ true) cs
held [] h = tt
held (c ∷ cs) h = let a = and_parts c.0 (passed cs) h in (a.0, held cs a.1)

member_may : (p : ℕ) (st : Standing) → May p st → is_in st ≡ true → valid_member (member_by p st) ≡ true
member_may p Out m e = absurd (both_ways false refl e)
member_may p (Asked r q) m e = absurd (both_ways false refl e)
member_may p (In n r) m e = m

-- the member that an end is may stand
pub self_valid : (s : State) (p : ℕ) → Proper s → is_in (s.ends p).standing ≡ true → valid_member (self s p) ≡ true
self_valid s p h e = member_may p (s.ends p).standing (h.ends p).may e

pub registering-carried : (s : State) (p r t b : ℕ) → Proper s → passed (register_checks s p r t b) ≡ true → carried (registering s p r t) ≡ true
registering-carried s p r t b h k =
    let c = held (register_checks s p r t b) k in
    let d = and_parts (within 1 255 r) (in_time t) c.1.1.0 in
    and_from _ _ d.1 (and_from _ _ (and_from _ _ (le-leb 1 (s.ends p).next (h.ends p).next) c.1.1.1.1.0) (and_from _ _ d.0 c.1.0))

proper_register : (s : State) (p r t b : ℕ) → Proper s → passed (register_checks s p r t b) ≡ true → Proper (state_by s (register_done s p r t))
proper_register s p r t b h k =
    proper_by s (register_done s p r t) h h.book
    (proper_at s p (end (Asked r (s.ends p).next) blank (suc (s.ends p).next)) h (record { view = blank_whole; next = omega arith; may = (held (register_checks s p r t b) k).1.0 }))
    (to_registrar (registering s p r t) (registering-carried s p r t b h k) refl, tt)

pub stopping-carried : (s : State) (p t b : ℕ) → Proper s → passed (unregister_checks s p t b) ≡ true → carried (stopping s p t) ≡ true
stopping-carried s p t b h k =
    let c = held (unregister_checks s p t b) k in
    and_from _ _ c.1.1.0 (self_valid s p h c.1.1.1.0)

proper_unregister : (s : State) (p t b : ℕ) → Proper s → passed (unregister_checks s p t b) ≡ true → Proper (state_by s (unregister_done s p t))
proper_unregister s p t b h k =
    proper_by s (unregister_done s p t) h h.book
    (proper_at s p (end Out blank (s.ends p).next) h (record { view = blank_whole; next = (h.ends p).next; may = tt }))
    (to_registrar (stopping s p t) (stopping-carried s p t b h k) refl, tt)

-- a rule of the member's own number
own_rule : (kind : RuleKind) (t : ℕ) (w : Member) (r x : ℕ) → in_time t ≡ true → valid_member w ≡ true → leb r 255 ≡ true → leb x 4095 ≡ true → same_kind kind kind ≡ true
    → change_carried kind (record { time = t; member = w; rule = rule_of kind w.number r x }) ≡ true
own_rule kind t w r x i v a b e =
    and_from _ _ i (and_from _ _ v (and_from _ _ (and_from _ _ (member_parts w v).0 (and_from _ _ a b)) (and_from _ _ e (eq-eqb w.number w.number refl))))

request_carried : (k : Request) (t : ℕ) (w : Member) (r x : ℕ) → in_time t ≡ true → valid_member w ≡ true → leb r 255 ≡ true → leb x 4095 ≡ true
    → carried (request_frame k (record { time = t; member = w; rule = rule_of (kind_asked k) w.number r x })) ≡ true
request_carried Subscribe t w r x i v a b = own_rule Subscription t w r x i v a b refl
request_carried Unsubscribe t w r x i v a b = own_rule Subscription t w r x i v a b refl
request_carried Invite t w r x i v a b = own_rule Invitation t w r x i v a b refl
request_carried Disinvite t w r x i v a b = own_rule Invitation t w r x i v a b refl

pub request_plain : (k : Request) (c : RuleChange) → is_message (said (request_frame k c)) ≡ false
request_plain Subscribe c = refl
request_plain Unsubscribe c = refl
request_plain Invite c = refl
request_plain Disinvite c = refl

pub requesting-carried : (s : State) (k : Request) (p r x t b : ℕ) → Proper s → passed (request_checks s k p r x t b) ≡ true → carried (requesting s k p r x t) ≡ true
requesting-carried s k p r x t b h y =
    let c = held (request_checks s k p r x t b) y in
    let d = and_parts (leb r 255) (leb x 4095 && in_time t) c.1.1.0 in
    let e = and_parts (leb x 4095) (in_time t) d.1 in
    request_carried k t (self s p) r x e.1 (self_valid s p h c.1.1.1.0) d.0 e.0

proper_request : (s : State) (k : Request) (p r x t b : ℕ) → Proper s → passed (request_checks s k p r x t b) ≡ true → Proper (state_by s (request_done s k p r x t))
proper_request s k p r x t b h y =
    proper_by s (request_done s k p r x t) h h.book h.ends (to_registrar (requesting s k p r x t) (requesting-carried s k p r x t b h y) (request_plain k _), tt)

-- a copy for a member of the view
pub copy_carried : (s : State) (a : Audience) (p x pr cx : ℕ) (body : List ℕ) (b : ℕ) (m : Member) → Proper s → passed (tell_checks s a p x pr cx body b) ≡ true → valid_member m ≡ true
    → carried (copy_for s a p x pr cx body m) ≡ true
copy_carried s a p x pr cx body b m h k v =
    let c = held (tell_checks s a p x pr cx body b) k in
    let w = member_parts (self s p) (self_valid s p h c.1.1.1.0) in
    let d = and_parts (within 1 4095 x) (within 1 15 pr && (leb cx 268435455 && (leb (length body) 1000 && audience_right a))) c.1.1.0 in
    let e = and_parts (within 1 15 pr) (leb cx 268435455 && (leb (length body) 1000 && audience_right a)) d.1 in
    let f = and_parts (leb cx 268435455) (leb (length body) 1000 && audience_right a) e.1 in
    let g = and_parts (leb (length body) 1000) (audience_right a) f.1 in
    and_from _ _ (and_from _ _ (member_parts m v).0 (and_from _ _ w.1 (and_from _ _ d.0 (and_from _ _ w.0 (and_from _ _ e.0 f.0))))) g.0

each_all : (f : Member → Bool) (ms : List Member) → each f ms ≡ true → All (λ m. f m ≡ true) ms
each_all f [] h = tt
each_all f (m ∷ ms) h = let a = and_parts (f m) (each f ms) h in (a.0, each_all f ms a.1)

-- every recipient may stand
pub recipients_valid : (s : State) (a : Audience) (p x : ℕ) → Proper s → All (λ m. valid_member m ≡ true) (recipients (s.ends p).view.members (s.ends p).view.rules a (sender s p) x)
recipients_valid s a p x h = all_kept_by _ (λ m. valid_member m ≡ true) (s.ends p).view.members (each_all valid_member (s.ends p).view.members (h.ends p).view.members_valid)

copies_mailable : (s : State) (a : Audience) (p x pr cx : ℕ) (body : List ℕ) (b : ℕ) → Proper s → passed (tell_checks s a p x pr cx body b) ≡ true → (ms : List Member) → All (λ m. valid_member m ≡ true) ms
    → All Mailable (map (λ m. sending m.port (write (copy_for s a p x pr cx body m))) ms)
copies_mailable s a p x pr cx body b h k [] v = tt
copies_mailable s a p x pr cx body b h k (m ∷ ms) v =
    (to_end m.port (copy_for s a p x pr cx body m) (member_port m v.0) (copy_carried s a p x pr cx body b m h k v.0), copies_mailable s a p x pr cx body b h k ms v.1)

proper_tell : (s : State) (a : Audience) (p x pr cx : ℕ) (body : List ℕ) (b : ℕ) → Proper s → passed (tell_checks s a p x pr cx body b) ≡ true → Proper (state_by s (tell_done s a p x pr cx body))
proper_tell s a p x pr cx body b h y =
    proper_by s (tell_done s a p x pr cx body) h h.book h.ends (copies_mailable s a p x pr cx body b h y _ (recipients_valid s a p x h))

-- what an end is after reading
abbrev ReadsWell : ℕ → Place → Type 0
ReadsWell p e = Whole e.view × May p e.standing

reads_proper : (p : ℕ) (st : Standing) (v : Listing) (m : Meaning) → Whole v → May p st → Sane m → ReadsWell p (reads p st v m)
reads_proper p Out v m s k h = (s, k)
reads_proper p (Asked r q) v (rejects f y) s k h = (s, k)
reads_proper p (Asked r q) v (dead m) s k h = (s, k)
reads_proper p (Asked r q) v (changes c) s k h = (s, k)
reads_proper p (Asked r q) v (applies x a) s k h = (s, k)
reads_proper p (Asked r q) v (welcomes x w b) s k h =
    cond_both (answers p r q x w) _ _ (ReadsWell p)
    (λ e.
    let a = and_parts (eqb x q) (eqb w.port p && eqb w.role r) e in
    let here : w.port ≡ p = eqb-true w.port p (and_parts (eqb w.port p) (eqb w.role r) a.1).0 in
    (h.1, subst (λ y. valid_member (member_of w.number w.role y) ≡ true) here h.0))
    (λ e. (s, k))
reads_proper p (Asked r q) v (reports b) s k h = (s, k)
reads_proper p (Asked r q) v (carries x o) s k h = (s, k)
reads_proper p (Asked r q) v (garbled e) s k h = (s, k)
reads_proper p (In n r) v (rejects f y) s k h = (s, k)
reads_proper p (In n r) v (dead m) s k h = cond_both (eqb m.number n && eqb m.role r) _ _ (ReadsWell p) (λ e. (blank_whole, tt)) (λ e. (s, k))
reads_proper p (In n r) v (changes c) s k h = (cond_both (names p n c) _ _ Whole (λ e. s) (λ e. applied_whole v c s), k)
reads_proper p (In n r) v (applies x a) s k h = (s, k)
reads_proper p (In n r) v (welcomes x w b) s k h = (s, k)
reads_proper p (In n r) v (reports b) s k h = cond_both (has (member_of n r p) b) _ _ (ReadsWell p) (λ e. (h, k)) (λ e. (blank_whole, tt))
reads_proper p (In n r) v (carries x o) s k h = (s, k)
reads_proper p (In n r) v (garbled e) s k h = (s, k)

-- what waits at a port was written
pub written_at : (s : State) (p k : ℕ) → Proper s → ltb k (length (s.line p)) ≡ true → Written (frame_at s p k)
written_at s p k h l = All-get_or Written (s.line p) k [] (ltb-true k (length (s.line p)) l) (h.lines p)

proper_receive : (s : State) (p b : ℕ) → Proper s → passed (receive_checks s p b) ≡ true → Proper (state_by s (receive_done s p))
proper_receive s p b h y =
    let w = written_at s p 0 h (held (receive_checks s p b) y).1.1.0 in
    let r = reads_proper p (s.ends p).standing (s.ends p).view (meaning (frame_at s p 0)) (h.ends p).view (h.ends p).may (sane_octets (frame_at s p 0) w) in
    proper_by s (receive_done s p) h h.book
    (proper_at s p (end (read_by s p (frame_at s p 0)).standing (read_by s p (frame_at s p 0)).view (s.ends p).next) h (record { view = r.0; next = (h.ends p).next; may = r.1 }))
    tt

proper_serve : (s : State) (t a b n : ℕ) → Proper s → Given s (serve t a b) n → passed (serve_checks s t a b) ≡ true → Proper (state_by s (serve_done s t n))
proper_serve s t a b n h g y =
    let c = held (serve_checks s t a b) y in
    let w = written_at s 0 0 h c.1.1.1.0 in
    proper_by s (serve_done s t n) h (deed-booked s.book t (meaning (frame_at s 0 0)) n h.book) h.ends
    (deed_sends s.book t (meaning (frame_at s 0 0)) s.last n (frame_at s 0 0) h.book c.1.1.0 w (sane_octets (frame_at s 0 0) w) (g y))

pub reporting-carried : (s : State) (t : ℕ) → Proper s → in_time t ≡ true → carried (reporting s t) ≡ true
reporting-carried s t h i = and_from _ _ i (written_sound s.book.members s.book.rules h.book)

proper_report : (s : State) (p t b : ℕ) → Proper s → passed (report_checks s p t b) ≡ true → Proper (state_by s (report_done s p t))
proper_report s p t b h y =
    let c = held (report_checks s p t b) y in
    proper_by s (report_done s p t) h h.book h.ends (to_end p (reporting s t) c.1.0 (reporting-carried s t h c.1.1.0), tt)

pub proper_after : (s : State) (c : Call) (n : ℕ) → Proper s → Given s c n → Proper (after s c n)
proper_after s c n h g =
    each_call s n (λ x o. Proper (state_by s o)) (λ x r. proper_refused s r h) (record {
      registers = λ p r t b. proper_register s p r t b h;
      unregisters = λ p t b. proper_unregister s p t b h;
      requests = λ k p r x t b. proper_request s k p r x t b h;
      tells = λ a p x pr cx body b. proper_tell s a p x pr cx body b h;
      receives = λ p b. proper_receive s p b h;
      serves = λ t a b. proper_serve s t a b n h;
      reports = λ p t b. proper_report s p t b h;
      loses = λ p k y. proper_by s (lose_done s p k) h h.book h.ends tt;
    }) c g

proper_new : (s : State) → New s → Proper s
proper_new s w = record {
  book = subst Whole (sym w.no_book) blank_whole;
  lines = λ p. subst (All Written) (sym (w.nothing_waits p)) tt;
  requests = subst (All (λ o. is_message (meaning o) ≡ false)) (sym (w.nothing_waits 0)) tt;
  ends = λ p. subst (ProperEnd p) (sym (w.all_out p)) (record { view = blank_whole; next = w.positive; may = tt });
}

-- every state that is reached is proper
pub proper : (h : History) (s : State) → Reached s h → Proper s
proper begin s past = proper_new s past
proper (h ▹ e) t past = subst Proper (sym past.2.becomes) (proper_after past.0 e.call past.2.number (proper h past.0 past.1) past.2.given)
