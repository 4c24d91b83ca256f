-- Every frame that a call puts is the writing of a record, and the state stays proper. Assumes nothing.
use Rattle.std.proofs.Common.{◌≡◌, ℕ, ◌≤◌, true, false, ◌&&◌, eqb, leb, List, [], ◌∷◌, sym, ap, ◌∙◌, subst, arith}
use Rattle.std.specs.List.{AllByRecursion as All}
use Rattle.std.proofs.lemmas.Bool.{both_ways, and_from, and_parts, cond_both, cond-true, ne_eqb, leb-true, le-leb}
use Rattle.words.specs.declared.applicant.Applicant.{Applicant}
use Rattle.words.specs.declared.member.Member.{Member}
use Rattle.words.specs.declared.rule_kind.RuleKind.{RuleKind}
use Rattle.words.specs.Books.{book_sound, has_word}
use Rattle.words.specs.Ranges.{within}
use Rattle.words.specs.Records.{id_of, module_of, valid_member, valid_module, member_word}
use Rattle.wire.specs.Frames.{FrameV, rejection, you_are_dead, invite, disinvite, module_registration, you_are_in, i_am_starting, subscribe, unsubscribe, i_am_stopping, cell_status, message}
use Rattle.wire.specs.Writes.{write, carried, in_time}
use Rattle.book.specs.declared.change.Change.{Change}
use Rattle.book.specs.declared.change.Change.TheVariants.{Starting, Stopping, Enter, Withdraw}
use Rattle.book.specs.Numbers.{First}
use Rattle.book.specs.Sound.{each, other_port}
use Rattle.book.proofs.Keeping.{each_kept}
use Rattle.book.proofs.Reading.{read_sound}
use Rattle.book.proofs.Writing.{written_sound, written_has}
use Rattle.rules.specs.Listings.{Listing, has, standing, accepts, changed, octets_of, Whole}
use Rattle.rules.specs.Meanings.{Meaning, rejects, dead, changes, applies, welcomes, reports, carries, garbled, said, meaning, is_message}
use Rattle.rules.specs.Registrar.{Deed, admit, others, Numbered, list_full, change_deed, newcomer, deed, booked, sending, to_each, dispatch}
use Rattle.rules.proofs.Books.{changed_whole, applied_whole, started_there}
use Rattle.rules.proofs.Proper.{Written, written, means, written_means, Mailable}

-- what every record that was written gives
abbrev pub Sane : Meaning → Type 0
Sane (rejects f y) = Unit {0}
Sane (dead m) = Unit {0}
Sane (changes (Starting w)) = valid_member w ≡ true
Sane (changes (Stopping w)) = valid_member w ≡ true
Sane (changes (Enter w u)) = valid_member w ≡ true
Sane (changes (Withdraw w u)) = valid_member w ≡ true
Sane (applies q a) = (within 1 4294967295 q ≡ true) × (within 1 255 a.role ≡ true) × (within 1 15 a.port ≡ true)
Sane (welcomes q w b) = (valid_member w ≡ true) × Whole b
Sane (reports b) = Whole b
Sane (carries h o) = Unit {0}
Sane (garbled e) = Unit {0}

pub sane : (v : FrameV) → carried v ≡ true → Sane (said v)
sane (rejection t f y) h = tt
sane (you_are_dead t m) h = tt
sane (invite c) h = (and_parts _ _ (and_parts _ _ h).1).0
sane (disinvite c) h = (and_parts _ _ (and_parts _ _ h).1).0
sane (module_registration t q a) h =
    let w = and_parts _ _ h in
    let x = and_parts _ _ w.1 in
    let y = and_parts _ _ x.1 in
    (x.0, y.0, y.1)
sane (you_are_in t q m b) h =
    let w = and_parts (in_time t) _ h in
    let x = and_parts (within 1 4294967295 q) _ w.1 in
    let y = and_parts (valid_member m) _ x.1 in
    (y.0, read_sound b (and_parts (book_sound b) (has_word b (member_word m)) y.1).0)
sane (i_am_starting t m) h = (and_parts _ _ h).1
sane (subscribe c) h = (and_parts _ _ (and_parts _ _ h).1).0
sane (unsubscribe c) h = (and_parts _ _ (and_parts _ _ h).1).0
sane (i_am_stopping t m) h = (and_parts _ _ h).1
sane (cell_status t b) h = read_sound b (and_parts _ _ h).1
sane (message x o) h = tt

pub sane_octets : (o : List ℕ) → Written o → Sane (meaning o)
sane_octets o w = subst Sane (sym (written_means o w)) (sane w.frame w.may)

-- a request
pub to_registrar : (v : FrameV) → carried v ≡ true → is_message (said v) ≡ false → Mailable (sending 0 (write v))
to_registrar v k m = (written v k, λ z. ap is_message (means v k) ∙ m)

-- number, role and port of a member that may stand
pub member_parts : (w : Member) → valid_member w ≡ true → (within 1 255 w.number ≡ true) × (within 1 255 w.role ≡ true) × (within 1 15 w.port ≡ true)
member_parts w h =
    let a = and_parts (within 1 255 w.number) (within 1 255 w.role && within 1 15 w.port) h in
    let b = and_parts (within 1 255 w.role) (within 1 15 w.port) a.1 in
    (a.0, b.0, b.1)

pub member_port : (w : Member) → valid_member w ≡ true → within 1 15 w.port ≡ true
member_port w h = (member_parts w h).2

pub low_part : (low high n : ℕ) → within low high n ≡ true → low ≤ n
low_part low high n h = leb-true low n (and_parts (leb low n) (leb n high) h).0

pub high_part : (low high n : ℕ) → within low high n ≡ true → n ≤ high
high_part low high n h = leb-true n high (and_parts (leb low n) (leb n high) h).1

-- the octets of a record that is for an end
pub to_end : (p : ℕ) (v : FrameV) → within 1 15 p ≡ true → carried v ≡ true → Mailable (sending p (write v))
to_end p v h k =
    let b = low_part 1 15 p h in
    (written v k, λ z. absurd (both_ways (eqb 0 p) (ne_eqb 0 p (λ e. omega arith)) z))

pub module_small : (w : Member) → valid_member w ≡ true → leb (id_of (module_of w)) 4294967295 ≡ true
module_small w h =
    let a = member_parts w h in
    let n = high_part 1 255 w.number a.0 in
    let r = high_part 1 255 w.role a.1 in
    le-leb (id_of (module_of w)) 4294967295 (omega arith)

pub module_right : (w : Member) → valid_member w ≡ true → valid_module (module_of w) ≡ true
module_right w h = let a = member_parts w h in and_from _ _ a.0 a.1

dead_mailable : (t : ℕ) (w : Member) → in_time t ≡ true → valid_member w ≡ true → Mailable (sending w.port (write (you_are_dead t (module_of w))))
dead_mailable t w i h = to_end w.port (you_are_dead t (module_of w)) (member_port w h) (and_from _ _ i (module_right w h))

full_mailable : (t : ℕ) (w : Member) (k : RuleKind) → in_time t ≡ true → valid_member w ≡ true → Mailable (sending w.port (write (rejection t (id_of (module_of w)) (list_full k))))
full_mailable t w k i h = to_end w.port (rejection t (id_of (module_of w)) (list_full k)) (member_port w h) (and_from _ _ i (module_small w h))

-- the same octets to each of these
each_mailable : (o : List ℕ) (ms : List Member) → Written o → each valid_member ms ≡ true → All Mailable (to_each o ms)
each_mailable o [] w h = tt
each_mailable o (m ∷ ms) w h =
    let a = and_parts _ _ h in
    let c = low_part 1 15 m.port (member_port m a.0) in
    ((w, λ z. absurd (both_ways (eqb 0 m.port) (ne_eqb 0 m.port (λ e. omega arith)) z)), each_mailable o ms w a.1)

each-others : (p : ℕ) (ms : List Member) → each valid_member ms ≡ true → each valid_member (others p ms) ≡ true
each-others p ms h = each_kept valid_member (other_port p) ms h

abbrev pub SendsWell : ℕ → List ℕ → Deed → Type 0
SendsWell t o d = All Mailable (dispatch d t o)

change_sends : (b : Listing) (t : ℕ) (c : Change) (o : List ℕ) → Whole b → in_time t ≡ true → Written o → Sane (changes c) → SendsWell t o (change_deed b t c)
change_sends b t (Starting w) o s i k h = tt
change_sends b t (Stopping w) o s i k h =
    cond_both (has w b) _ _ (SendsWell t o) (λ e. each_mailable o _ k (applied_whole b (Stopping w) s).members_valid) (λ e. tt)
change_sends b t (Enter w u) o s i k h =
    cond_both (has w b) _ _ (SendsWell t o)
    (λ e. cond_both (accepts b (Enter w u)) _ _ (SendsWell t o)
    (λ z. each_mailable o _ k (applied_whole b (Enter w u) s).members_valid)
    (λ z. cond_both (standing u b) _ _ (SendsWell t o) (λ y. tt) (λ y. (full_mailable t w u.kind i h, tt))))
    (λ e. (dead_mailable t w i h, tt))
change_sends b t (Withdraw w u) o s i k h =
    cond_both (has w b) _ _ (SendsWell t o)
    (λ e. cond_both (accepts b (Withdraw w u)) _ _ (SendsWell t o)
    (λ z. each_mailable o _ k (applied_whole b (Withdraw w u) s).members_valid)
    (λ z. tt))
    (λ e. (dead_mailable t w i h, tt))

-- a number that is given may stand
given_right : (ms : List Member) (l n : ℕ) → First ms l n → within 1 255 n ≡ true
given_right ms l n f =
    let e = f.is in
    and_from _ _ (le-leb 1 n (omega arith)) (le-leb n 255 (omega arith))

pub seats_right : (q : ℕ) (a : Applicant) (l n : ℕ) (ms : List Member) → Sane (applies q a) → First ms l n → valid_member (newcomer a n) ≡ true
seats_right q a l n ms h f = and_from _ _ (given_right ms l n f) (and_from _ _ h.1 h.2)

pub welcome_carried : (t q : ℕ) (b : Listing) (w : Member) → Whole b → in_time t ≡ true → within 1 4294967295 q ≡ true → valid_member w ≡ true
    → carried (you_are_in t q w (octets_of (changed b (Starting w)))) ≡ true
welcome_carried t q b w s i h v =
    let d : Listing = changed b (Starting w) in
    let k : Whole d = changed_whole b (Starting w) s v in
    and_from _ _ i (and_from _ _ h (and_from _ _ v (and_from _ _ (written_sound d.members d.rules k) (written_has d.members d.rules k w v ∙ started_there b w s v))))

admit_sends : (b : Listing) (t q : ℕ) (w : Member) (o : List ℕ) → Whole b → in_time t ≡ true → within 1 4294967295 q ≡ true → valid_member w ≡ true → SendsWell t o (admit (changed b (Starting w)) w q)
admit_sends b t q w o s i h v =
    let d : Listing = changed b (Starting w) in (
      to_end w.port (you_are_in t q w (octets_of d)) (member_port w v) (welcome_carried t q b w s i h v),
      each_mailable (write (i_am_starting t w)) (others w.port d.members) (written (i_am_starting t w) (and_from _ _ i v)) (each-others w.port d.members (changed_whole b (Starting w) s v).members_valid),
    )

pub deed_sends : (b : Listing) (t : ℕ) (m : Meaning) (l n : ℕ) (o : List ℕ) → Whole b → in_time t ≡ true → Written o → Sane m → Numbered l b m n → SendsWell t o (deed b t m n)
deed_sends b t (rejects f y) l n o s i k h g = tt
deed_sends b t (dead m) l n o s i k h g = tt
deed_sends b t (changes c) l n o s i k h g = change_sends b t c o s i k h
deed_sends b t (applies q a) l n o s i k h g =
    let v = seats_right q a l n _ h g in
    subst (λ (d : Listing). SendsWell t o (admit d (newcomer a n) q)) (sym (cond-true (valid_member (newcomer a n)) _ _ v)) (admit_sends b t q (newcomer a n) o s i h.0 v)
deed_sends b t (welcomes q m v) l n o s i k h g = tt
deed_sends b t (reports v) l n o s i k h g = tt
deed_sends b t (carries x y) l n o s i k h g = tt
deed_sends b t (garbled e) l n o s i k h g = tt

change_booked : (b : Listing) (t : ℕ) (c : Change) → Whole b → Whole (booked b (change_deed b t c))
change_booked b t (Starting w) s = s
change_booked b t (Stopping w) s = cond_both (has w b) _ _ (λ d. Whole (booked b d)) (λ e. applied_whole b (Stopping w) s) (λ e. s)
change_booked b t (Enter w u) s =
    cond_both (has w b) _ _ (λ d. Whole (booked b d))
    (λ e. cond_both (accepts b (Enter w u)) _ _ (λ d. Whole (booked b d)) (λ z. applied_whole b (Enter w u) s)
    (λ z. cond_both (standing u b) _ _ (λ d. Whole (booked b d)) (λ y. s) (λ y. s)))
    (λ e. s)
change_booked b t (Withdraw w u) s =
    cond_both (has w b) _ _ (λ d. Whole (booked b d))
    (λ e. cond_both (accepts b (Withdraw w u)) _ _ (λ d. Whole (booked b d)) (λ z. applied_whole b (Withdraw w u) s) (λ z. s))
    (λ e. s)

pub deed-booked : (b : Listing) (t : ℕ) (m : Meaning) (n : ℕ) → Whole b → Whole (booked b (deed b t m n))
deed-booked b t (rejects f y) n s = s
deed-booked b t (dead m) n s = s
deed-booked b t (changes c) n s = change_booked b t c s
deed-booked b t (applies q a) n s = applied_whole b (Starting (newcomer a n)) s
deed-booked b t (welcomes q m v) n s = s
deed-booked b t (reports v) n s = s
deed-booked b t (carries x y) n s = s
deed-booked b t (garbled e) n s = s
