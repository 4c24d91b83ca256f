-- Reading what was written gives the same record. Assumes nothing.
use Rattle.std.proofs.Common.{◌≡◌, ℕ, ◌+◌, ◌/◌, ◌%◌, ◌<◌, ◌≤◌, Bool, true, false, cond, ltb, leb, List, [], length, Some, None, Ok, sym, refl, ap, ◌∙◌, arith, rules}
use Rattle.std.proofs.lemmas.Bool.{eq-eqb, le-leb, leb-true, lt-ltb, le-ltb, and_parts, and_from}
use Rattle.words.specs.declared.member.Member.{Member}
use Rattle.words.specs.declared.applicant.Applicant.{Applicant}
use Rattle.words.specs.declared.module_id.ModuleId.{ModuleId}
use Rattle.words.specs.declared.rule.Rule.{Rule}
use Rattle.words.specs.declared.reason.Reason.{Reason}
use Rattle.words.specs.declared.rule_kind.RuleKind.{RuleKind}
use Rattle.words.specs.declared.rule_kind.RuleKind.TheVariants.{Subscription, Invitation}
use Rattle.words.specs.declared.head.MessageHead.{MessageHead}
use Rattle.words.specs.declared.message_kind.MessageKind.{MessageKind}
use Rattle.words.specs.declared.message_kind.MessageKind.TheVariants.{Published, Announced, Private}
use Rattle.words.specs.Ranges.{within}
use Rattle.words.specs.Words.{kind_of, word_octets}
use Rattle.words.specs.Records.{valid_member, valid_applicant, valid_module, valid_rule, member_word, applicant_word, rule_word, reason_word, id_of, module_of, is_module, module_in}
use Rattle.words.specs.Heads.{valid_head, kind_number, message_kind, receiver_word, sender_word, context_word}
use Rattle.words.specs.Books.{book_sound}
use Rattle.words.proofs.Trips.{head_bounds, member_trip, applicant_trip, rule_trip, reason_trip, module_trip, head_trip}
use Rattle.words.proofs.Sound.{sound_is_book, sound_none, sound_small}
use Rattle.wire.specs.declared.frame.RuleChange.{RuleChange}
use Rattle.wire.specs.declared.header.Header.{Header}
use Rattle.wire.specs.declared.meta_type.MetaType.{MetaType}
use Rattle.wire.specs.declared.meta_type.MetaType.TheVariants.{Rejection, YouAreDead, Invite, Disinvite, ModuleRegistration, YouAreIn, IAmStarting, Subscribe, Unsubscribe, IAmStopping, CellStatus}
use Rattle.wire.specs.Types.{length_right}
use Rattle.wire.specs.Headers.{header, header_octets}
use Rattle.wire.specs.Frames.{rejection, you_are_dead, invite, disinvite, module_registration, you_are_in, i_am_starting, subscribe, unsubscribe, i_am_stopping, cell_status, message}
use Rattle.wire.specs.Reads.{read, read_change, read_named, by_type}
use Rattle.wire.specs.Writes.{write, carried, change_carried, change_data, message_data, in_time, same_kind}
use Rattle.wire.specs.Laws.{ReadWritten}
use Rattle.wire.proofs.Digits.{word_back}
use Rattle.wire.proofs.Headed.{meta_back}
use Rattle.wire.proofs.Reading.{message_some}

tick : (t : ℕ) → in_time t ≡ true → t < 1099511627776
tick t h = omega (arith, leb-true t 1099511627775 h)

member_fits : (m : Member) → valid_member m ≡ true → member_word m < 4294967296
member_fits m v = search rules

applicant_fits : (a : Applicant) → valid_applicant a ≡ true → applicant_word a < 4294967296
applicant_fits a v = search rules

rule_fits : (u : Rule) → valid_rule u ≡ true → rule_word u < 4294967296
rule_fits u v = search rules

reason_fits : (y : Reason) → reason_word y < 4294967296
reason_fits y = search rules

id_fits : (m : ModuleId) → valid_module m ≡ true → id_of m < 4294967296
id_fits m v = search rules

module_fits : (m : Member) → valid_member m ≡ true → id_of (module_of m) < 4294967296
module_fits m v = search rules

rejection_back : (t f : ℕ) (y : Reason) → carried (rejection t f y) ≡ true → read (write (rejection t f y)) ≡ Ok (rejection t f y)
rejection_back t f y v =
    let p = and_parts (in_time t) _ v in
    meta_back Rejection 0 f t (word_octets (reason_word y) []) refl (omega arith) (omega (arith, leb-true _ _ p.1)) (tick t p.0)
    ∙ simp (word_back (reason_word y) (reason_fits y), reason_trip.back y 18 tt)

some_if : (b : Bool) (x m : ModuleId) → cond b (Some x) None ≡ Some m → (b ≡ true) × (x ≡ m)
some_if true x m e = (refl, cc)
some_if false x m e = cc

dead_back : (t : ℕ) (m : ModuleId) → carried (you_are_dead t m) ≡ true → read (write (you_are_dead t m)) ≡ Ok (you_are_dead t m)
dead_back t m v =
    let p = and_parts (in_time t) _ v in
    let i = some_if (is_module (id_of m)) (module_in (id_of m)) m (module_trip.back m p.1) in
    meta_back YouAreDead 0 (id_of m) t [] refl (omega arith) (id_fits m p.1) (tick t p.0) ∙ rw (i.0, i.1)

same_kind_is : (a b : RuleKind) → same_kind a b ≡ true → a ≡ b
same_kind_is Subscription Subscription e = refl
same_kind_is Subscription Invitation e = cc
same_kind_is Invitation Subscription e = cc
same_kind_is Invitation Invitation e = refl

abbrev own_header : MetaType → RuleChange → Header
own_header j c = header j c.member.role (id_of (module_of c.member)) c.time

-- a rule of either kind, entered or withdrawn
change_read : (k : RuleKind) (j : MetaType) (c : RuleChange) → change_carried k c ≡ true
    → read_change k (header_octets (own_header j c) 8 (change_data c)) (own_header j c) ≡ Ok c
change_read k j c v =
    let m = c.member in
    let u = c.rule in
    let p = and_parts (in_time c.time) _ v in
    let q = and_parts (valid_member m) _ p.1 in
    let r = and_parts (valid_rule u) _ q.1 in
    let s = and_parts (same_kind u.kind k) _ r.1 in
    simp (word_back (member_word m) (member_fits m q.0), word_back (rule_word u) (rule_fits u r.0), member_trip.back m 18 q.0, (rule_trip k).back u 22 (same_kind_is u.kind k s.0, r.0))
    (simp (s.1, eq-eqb m.role m.role refl, eq-eqb (id_of (module_of m)) (id_of (module_of m)) refl))

change_back : (k : RuleKind) (j : MetaType) (c : RuleChange) → change_carried k c ≡ true → length_right j 8 ≡ true
    → read (header_octets (own_header j c) 8 (change_data c)) ≡ by_type j (header_octets (own_header j c) 8 (change_data c)) (own_header j c)
change_back k j c v n =
    let p = and_parts (in_time c.time) _ v in
    let q = and_parts (valid_member c.member) _ p.1 in
    meta_back j c.member.role (id_of (module_of c.member)) c.time (change_data c) n (omega arith) (module_fits c.member q.0) (tick c.time p.0)

registration_back : (t q : ℕ) (a : Applicant) → carried (module_registration t q a) ≡ true → read (write (module_registration t q a)) ≡ Ok (module_registration t q a)
registration_back t q a v =
    let p = and_parts (in_time t) _ v in
    let r = and_parts (within 1 4294967295 q) _ p.1 in
    let b = and_parts (leb 1 q) (leb q 4294967295) r.0 in
    meta_back ModuleRegistration a.role q t (word_octets (applicant_word a) []) refl (omega arith) (omega (arith, leb-true _ _ b.1)) (tick t p.0)
    ∙ simp (word_back (applicant_word a) (applicant_fits a r.1), applicant_trip.back a 18 r.1)
    (simp (eq-eqb a.role a.role refl, lt-ltb 0 q (omega (arith, leb-true _ _ b.0))))

in_back : (t q : ℕ) (m : Member) (b : List ℕ) → carried (you_are_in t q m b) ≡ true → read (write (you_are_in t q m b)) ≡ Ok (you_are_in t q m b)
in_back t q m b v =
    let p = and_parts (in_time t) _ v in
    let r = and_parts (within 1 4294967295 q) _ p.1 in
    let i = and_parts (leb 1 q) (leb q 4294967295) r.0 in
    let s = and_parts (valid_member m) _ r.1 in
    let w = and_parts (book_sound b) _ s.1 in
    let l : length b ≤ 860 = sound_small b w.0 in
    let h : length b % 4 ≡ 0 = (sound_is_book b w.0).whole in
    let z = length (word_octets (member_word m) b) in
    let n : length_right YouAreIn z ≡ true =
    and_from _ _ (and_from _ _ (le-leb 4 z (omega arith)) (le-leb z 864 (omega arith))) (eq-eqb (z % 4) 0 (omega arith)) in
    meta_back YouAreIn 0 q t (word_octets (member_word m) b) n (omega arith) (omega (arith, leb-true _ _ i.1)) (tick t p.0)
    ∙ simp (word_back (member_word m) (member_fits m s.0), member_trip.back m 18 s.0)
    (simp (sound_none b w.0) (simp (w.1, lt-ltb 0 q (omega (arith, leb-true _ _ i.0)))))

named_read : (g : Bool) (j : MetaType) (t : ℕ) (m : Member) → valid_member m ≡ true
    → read_named g (header_octets (header j (cond g 0 m.role) (id_of (module_of m)) t) 4 (word_octets (member_word m) [])) (header j (cond g 0 m.role) (id_of (module_of m)) t) ≡ Ok m
named_read g j t m v =
    simp (word_back (member_word m) (member_fits m v), member_trip.back m 18 v)
    (simp (eq-eqb (cond g 0 m.role) (cond g 0 m.role) refl, eq-eqb (id_of (module_of m)) (id_of (module_of m)) refl))

named_back : (g : Bool) (j : MetaType) (t : ℕ) (m : Member) → in_time t ≡ true → valid_member m ≡ true → length_right j 4 ≡ true
    → read (header_octets (header j (cond g 0 m.role) (id_of (module_of m)) t) 4 (word_octets (member_word m) []))
    ≡ by_type j (header_octets (header j (cond g 0 m.role) (id_of (module_of m)) t) 4 (word_octets (member_word m) [])) (header j (cond g 0 m.role) (id_of (module_of m)) t)
named_back g j t m p v n =
    meta_back j (cond g 0 m.role) (id_of (module_of m)) t (word_octets (member_word m) []) n (omega arith) (module_fits m v) (tick t p)

status_back : (t : ℕ) (b : List ℕ) → carried (cell_status t b) ≡ true → read (write (cell_status t b)) ≡ Ok (cell_status t b)
status_back t b v =
    let p = and_parts (in_time t) _ v in
    let l : length b ≤ 860 = sound_small b p.1 in
    let h : length b % 4 ≡ 0 = (sound_is_book b p.1).whole in
    let n : length_right CellStatus (length b) ≡ true = and_from _ _ (le-leb (length b) 860 l) (eq-eqb (length b % 4) 0 h) in
    meta_back CellStatus 0 0 t b n (omega arith) (omega arith) (tick t p.0) ∙ simp (sound_none b p.1)

kind_range : (k : MessageKind) → (8 ≤ kind_number k) × (kind_number k ≤ 10)
kind_range Published = (omega arith, omega arith)
kind_range Announced = (omega arith, omega arith)
kind_range Private = (omega arith, omega arith)

kind_back : (k : MessageKind) → message_kind (kind_number k) ≡ Some k
kind_back Published = refl
kind_back Announced = refl
kind_back Private = refl

-- the first word begins with its kind, and all three have 32 bits
head_fits : (h : MessageHead) (n : ℕ) → valid_head h ≡ true → n < 65536
    → (2147483648 ≤ receiver_word h) × (receiver_word h < 4294967296) × (sender_word h n < 4294967296) × (context_word h < 4294967296) × (kind_of (receiver_word h) ≡ kind_number h.kind)
head_fits h n v l =
    let b = head_bounds h v in
    let k = kind_range h.kind in
    (omega (arith, k.0), omega (arith, k.1), omega arith, omega arith, omega arith)

-- three words of a message stand before its content
message_back : (h : MessageHead) (b : List ℕ) → carried (message h b) ≡ true → read (write (message h b)) ≡ Ok (message h b)
unfolding read
message_back h b v =
    let p = and_parts (valid_head h) _ v in
    let l : length b ≤ 1000 = leb-true _ _ p.1 in
    let ys = message_data h b in
    let w = head_fits h (length b) p.0 (omega arith) in
    let z : ltb (receiver_word h / 16777216 % 256) 128 ≡ false = le-ltb _ _ (omega (arith, w.0, w.1)) in
    let t = head_trip.back h (length b) p.0 (omega arith) in
    let k : message_kind (kind_of (receiver_word h)) ≡ Some h.kind = ap message_kind w.4 ∙ kind_back h.kind in
    let m = message_some ys h.kind (receiver_word h) (sender_word h (length b)) (context_word h) (omega arith)
    (sym (word_back _ w.1)) (sym (word_back _ w.2)) (sym (word_back _ w.3)) k in
    rw z (sym m ∙ rw (t.0, t.1, le-leb (length b) 1000 l, eq-eqb (length ys) (12 + length b) (omega arith)))

pub read_written : ReadWritten
read_written (rejection t f y) v = rejection_back t f y v
read_written (you_are_dead t m) v = dead_back t m v
read_written (invite c) v = change_back Invitation Invite c v refl ∙ rw (change_read Invitation Invite c v)
read_written (disinvite c) v = change_back Invitation Disinvite c v refl ∙ rw (change_read Invitation Disinvite c v)
read_written (module_registration t q a) v = registration_back t q a v
read_written (you_are_in t q m b) v = in_back t q m b v
read_written (i_am_starting t m) v =
    let p = and_parts (in_time t) _ v in
    named_back true IAmStarting t m p.0 p.1 refl ∙ rw (named_read true IAmStarting t m p.1)
read_written (subscribe c) v = change_back Subscription Subscribe c v refl ∙ rw (change_read Subscription Subscribe c v)
read_written (unsubscribe c) v = change_back Subscription Unsubscribe c v refl ∙ rw (change_read Subscription Unsubscribe c v)
read_written (i_am_stopping t m) v =
    let p = and_parts (in_time t) _ v in
    named_back false IAmStopping t m p.0 p.1 refl ∙ rw (named_read false IAmStopping t m p.1)
read_written (cell_status t b) v = status_back t b v
read_written (message h b) v = message_back h b v
