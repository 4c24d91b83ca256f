-- Writing what was read gives the same octets, and what was read can be written. Assumes nothing.
use Rattle.std.proofs.Common.{◌≡◌, ℕ, ◌+◌, ◌<◌, ◌≤◌, Bool, true, false, cond, ◌&&◌, eqb, ltb, leb, List, [], ◌∷◌, length, drop, Some, None, Ok, Option, Result, sym, refl, ap, arith}
use Rattle.std.proofs.lemmas.Bool.{eqb-true, le-leb, leb-true, ltb-true, and_parts, and_from}
use Rattle.std.proofs.lemmas.List.{drop_all}
use Rattle.words.specs.declared.member.Member.{Member}
use Rattle.words.specs.declared.rule_kind.RuleKind.{RuleKind}
use Rattle.words.specs.declared.rule_kind.RuleKind.TheVariants.{Subscription, Invitation}
use Rattle.words.specs.Ranges.{within}
use Rattle.words.specs.Words.{word_at, word_octets}
use Rattle.words.specs.Records.{valid_member, member_word, applicant_word, rule_word, reason_word, id_of, module_of, is_module, module_in, read_member, read_applicant, read_rule, read_reason}
use Rattle.words.specs.Books.{book_sound, has_word, wrong_word, read_book, placed, is_none}
use Rattle.words.proofs.Trips.{member_trip, applicant_trip, rule_trip, reason_trip, module_trip}
use Rattle.wire.specs.declared.fault.FrameFault.{FrameFault}
use Rattle.wire.specs.declared.fault.FrameFault.TheVariants.{Role, Reference}
use Rattle.wire.specs.declared.frame.RuleChange.{RuleChange}
use Rattle.wire.specs.declared.header.Header.{Header}
use Rattle.wire.specs.declared.meta_type.MetaType.{MetaType}
use Rattle.wire.specs.declared.meta_type.MetaType.TheVariants.{Rejection, YouAreDead, Invite, Disinvite, ModuleRegistration, YouAreIn, IAmStarting, Subscribe, Unsubscribe, IAmStopping, CellStatus}
use Rattle.wire.specs.Checks.{up}
use Rattle.wire.specs.Types.{length_right}
use Rattle.wire.specs.Headers.{header, read_header}
use Rattle.wire.specs.Frames.{FrameV, rejection, you_are_dead, invite, disinvite, module_registration, you_are_in, i_am_starting, subscribe, unsubscribe, i_am_stopping, cell_status}
use Rattle.wire.specs.Reads.{made_of, ends, refers_to, wrong_at, by_type, read_rejection, read_dead, read_own_rule, read_change, read_registration, read_you_are_in, read_named, read_status, read_meta}
use Rattle.wire.specs.Writes.{write, header_of, data_of, carried, change_carried, change_data, in_time, same_kind}
use Rattle.wire.specs.Laws.{Octets}
use Rattle.wire.proofs.Digits.{word_then, word_last}
use Rattle.wire.proofs.Inverts.{passed, then_ok, up_ok, ok_is}
use Rattle.wire.proofs.Headed.{HeaderRead, header_inverse}

-- the record v stands in the frame xs behind the header h
pub record Inverse (xs : List ℕ) (h : Header) (v : FrameV) : Type 0 where
  pub head : header_of v ≡ Some h
  pub content : data_of v ≡ drop 18 xs
  pub fit : carried v ≡ true

is_header : (h : Header) (k : MetaType) (r f : ℕ) → h.kind ≡ k → h.role ≡ r → h.reference ≡ f → Some (header k r f h.time) ≡ Some h
is_header h k r f a b c = rw (← a, ← b, ← c)

ends_ok : (h : Header) (r : ℕ) (b : Bool) (x : Unit {0}) → ends h r b ≡ Ok x → (h.role ≡ r) × (b ≡ true)
ends_ok h r b x e =
    let p = (passed ((eqb h.role r, Role) ∷ (b, Reference) ∷ []) (Ok tt) x e).0 in
    (eqb-true h.role r p.0, p.1.0)

timed : (t : ℕ) → t < 1099511627776 → in_time t ≡ true
timed t l = le-leb t 1099511627775 (omega arith)

referred : (f : ℕ) → 0 < f → f < 4294967296 → within 1 4294967295 f ≡ true
referred f p q = and_from _ _ (le-leb 1 f (omega arith)) (le-leb f 4294967295 (omega arith))

one_word : (xs : List ℕ) (w : ℕ) → Octets xs → length xs ≡ 22 → w ≡ word_at xs 18 → word_octets w [] ≡ drop 18 xs
one_word xs w o l e = rw e (word_last xs 18 o l)

two_words : (xs : List ℕ) (w u : ℕ) → Octets xs → length xs ≡ 26 → w ≡ word_at xs 18 → u ≡ word_at xs 22 → word_octets w (word_octets u []) ≡ drop 18 xs
two_words xs w u o l e f = rw (e, f, word_last xs 22 o l) (word_then xs 18 o (omega arith))

word_and_rest : (xs : List ℕ) (w : ℕ) (b : List ℕ) → Octets xs → 22 ≤ length xs → w ≡ word_at xs 18 → b ≡ drop 22 xs → word_octets w b ≡ drop 18 xs
word_and_rest xs w b o l e f = rw (e, f) (word_then xs 18 o l)

same : (a b : RuleKind) → a ≡ b → same_kind a b ≡ true
same Subscription b e = rw (← e)
same Invitation b e = rw (← e)

module _ (xs : List ℕ) (h : Header) (o : Octets xs) (hr : HeaderRead xs h) where
  sized : (k : MetaType) (n : ℕ) → h.kind ≡ k → (length_right k (length (drop 18 xs)) ≡ true → length (drop 18 xs) ≡ n) → length xs ≡ 18 + n
  sized k n e f = let l = f (rw e at hr.right) in rw (← l) hr.size

  rejection_inverse : (v : FrameV) → h.kind ≡ Rejection → read_rejection xs h ≡ Ok v → Inverse xs h v
  rejection_inverse v k e =
      let t = then_ok (up (read_reason (word_at xs 18) 18)) _ v e in
      let f = reason_trip.forth (word_at xs 18) 18 t.0 (up_ok _ t.0 t.1) in
      let s = then_ok (ends h 0 true) _ v t.2 in
      let n = ends_ok h 0 true s.0 s.1 in
      let g : rejection h.time h.reference t.0 ≡ v = ok_is _ v s.2 in
      let l = sized Rejection 4 k (λ q. eqb-true _ 4 q) in
      rw (← g) (record {
        head = is_header h Rejection 0 h.reference k n.0 refl;
        content = one_word xs (reason_word t.0) o l f.1;
        fit = and_from _ _ (timed h.time hr.time) (le-leb h.reference 4294967295 (omega (arith, hr.reference)));
      })

  dead_inverse : (v : FrameV) → h.kind ≡ YouAreDead → read_dead h ≡ Ok v → Inverse xs h v
  dead_inverse v k e =
      let s = then_ok (ends h 0 (is_module h.reference)) _ v e in
      let n = ends_ok h 0 (is_module h.reference) s.0 s.1 in
      let f = module_trip.forth h.reference (module_in h.reference) (rw n.1) in
      let g : you_are_dead h.time (module_in h.reference) ≡ v = ok_is _ v s.2 in
      let l = sized YouAreDead 0 k (λ q. eqb-true _ 0 q) in
      rw (← g) (record {
        head = is_header h YouAreDead 0 (id_of (module_in h.reference)) k n.0 (sym f.1);
        content = sym (drop_all 18 xs (omega arith));
        fit = and_from _ _ (timed h.time hr.time) f.0;
      })

  change_inverse : (j : RuleKind) (k : MetaType) (c : RuleChange) → h.kind ≡ k → (length_right k (length (drop 18 xs)) ≡ true → length (drop 18 xs) ≡ 8) → read_change j xs h ≡ Ok c
      → (Some (header k c.member.role (id_of (module_of c.member)) c.time) ≡ Some h) × (change_data c ≡ drop 18 xs) × (change_carried j c ≡ true)
  change_inverse j k c p z e =
      let l = sized k 8 p z in
      let t = then_ok (up (read_member (word_at xs 18) 18)) _ c e in
      let m = t.0 in
      let f = member_trip.forth (word_at xs 18) 18 m (up_ok _ m t.1) in
      let s = then_ok (read_own_rule j xs m) _ c t.2 in
      let u = s.0 in
      let r = then_ok (up (read_rule j (word_at xs 22) 22)) _ u s.1 in
      let q = passed ((eqb r.0.number m.number, wrong_at 22) ∷ []) (Ok r.0) u r.2 in
      let i : r.0 ≡ u = ok_is _ u q.1 in
      let y = (rule_trip j).forth (word_at xs 22) 22 u (up_ok _ u (rw i at r.1)) in
      let d = then_ok (ends h m.role (refers_to h m)) _ c s.2 in
      let n = ends_ok h m.role (refers_to h m) d.0 d.1 in
      let g = ok_is _ c d.2 in
      rw (← g) (
        is_header h k m.role (id_of (module_of m)) p n.0 (eqb-true _ _ n.1),
        two_words xs (member_word m) (rule_word u) o l f.1 y.1,
        and_from _ _ (timed h.time hr.time) (and_from _ _ f.0 (and_from _ _ y.0.1 (and_from _ _ (same u.kind j y.0.0) (rw i at q.0.0)))),
      )

  registration_inverse : (v : FrameV) → h.kind ≡ ModuleRegistration → read_registration xs h ≡ Ok v → Inverse xs h v
  registration_inverse v k e =
      let t = then_ok (up (read_applicant (word_at xs 18) 18)) _ v e in
      let a = t.0 in
      let f = applicant_trip.forth (word_at xs 18) 18 a (up_ok _ a t.1) in
      let s = then_ok (ends h a.role (ltb 0 h.reference)) _ v t.2 in
      let n = ends_ok h a.role (ltb 0 h.reference) s.0 s.1 in
      let g : module_registration h.time h.reference a ≡ v = ok_is _ v s.2 in
      let l = sized ModuleRegistration 4 k (λ q. eqb-true _ 4 q) in
      rw (← g) (record {
        head = is_header h ModuleRegistration a.role h.reference k n.0 refl;
        content = one_word xs (applicant_word a) o l f.1;
        fit = and_from _ _ (timed h.time hr.time) (and_from _ _ (referred h.reference (ltb-true _ _ n.1) hr.reference) f.0);
      })

  -- a book that was read is the rest of the frame, and sound
  book_inverse : (at : ℕ) (b : List ℕ) → read_book xs at ≡ Ok b → (b ≡ drop at xs) × (book_sound b ≡ true)
  book_inverse at b e = placed_ok (drop at xs) at (wrong_word (drop at xs)) refl e
    where
      placed_ok : (ys : List ℕ) (n : ℕ) (w : Option ℕ) → wrong_word ys ≡ w → placed ys n w ≡ Ok b → (b ≡ ys) × (book_sound b ≡ true)
      placed_ok ys n None f g = let i : ys ≡ b = cc in (sym i, rw (← i) (ap is_none f))
      placed_ok ys n (Some k) f g = cc

  in_inverse : (v : FrameV) → h.kind ≡ YouAreIn → read_you_are_in xs h ≡ Ok v → Inverse xs h v
  in_inverse v k e =
      let t = then_ok (up (read_member (word_at xs 18) 18)) _ v e in
      let m = t.0 in
      let f = member_trip.forth (word_at xs 18) 18 m (up_ok _ m t.1) in
      let r = then_ok (up (read_book xs 22)) _ v t.2 in
      let b = r.0 in
      let y = book_inverse 22 b (up_ok _ b r.1) in
      let q = passed ((has_word b (member_word m), wrong_at 18) ∷ []) _ v r.2 in
      let s = then_ok (ends h 0 (ltb 0 h.reference)) _ v q.1 in
      let n = ends_ok h 0 (ltb 0 h.reference) s.0 s.1 in
      let g : you_are_in h.time h.reference m b ≡ v = ok_is _ v s.2 in
      let w = and_parts (within 4 864 (length (drop 18 xs))) _ (rw k at hr.right) in
      let l : 4 ≤ length (drop 18 xs) = leb-true 4 _ (and_parts (leb 4 (length (drop 18 xs))) _ w.0).0 in
      rw (← g) (record {
        head = is_header h YouAreIn 0 h.reference k n.0 refl;
        content = word_and_rest xs (member_word m) b o (omega (arith, hr.size)) f.1 y.0;
        fit = and_from _ _ (timed h.time hr.time) (and_from _ _ (referred h.reference (ltb-true _ _ n.1) hr.reference) (and_from _ _ f.0 (and_from _ _ y.1 q.0.0)));
      })

  named_inverse : (b : Bool) (k : MetaType) (m : Member) → h.kind ≡ k → (length_right k (length (drop 18 xs)) ≡ true → length (drop 18 xs) ≡ 4) → read_named b xs h ≡ Ok m
      → (Some (header k (cond b 0 m.role) (id_of (module_of m)) h.time) ≡ Some h) × (word_octets (member_word m) [] ≡ drop 18 xs) × ((in_time h.time && valid_member m) ≡ true)
  named_inverse b k m p z e =
      let l = sized k 4 p z in
      let t = then_ok (up (read_member (word_at xs 18) 18)) _ m e in
      let s = then_ok (ends h (cond b 0 t.0.role) (refers_to h t.0)) _ m t.2 in
      let n = ends_ok h (cond b 0 t.0.role) (refers_to h t.0) s.0 s.1 in
      let g : t.0 ≡ m = ok_is _ m s.2 in
      let f = member_trip.forth (word_at xs 18) 18 t.0 (up_ok _ t.0 t.1) in
      rw (← g) (
        is_header h k (cond b 0 t.0.role) (id_of (module_of t.0)) p n.0 (eqb-true _ _ n.1),
        one_word xs (member_word t.0) o l f.1,
        and_from _ _ (timed h.time hr.time) f.0,
      )

  status_inverse : (v : FrameV) → h.kind ≡ CellStatus → read_status xs h ≡ Ok v → Inverse xs h v
  status_inverse v k e =
      let r = then_ok (up (read_book xs 18)) _ v e in
      let b = r.0 in
      let y = book_inverse 18 b (up_ok _ b r.1) in
      let s = then_ok (ends h 0 (eqb h.reference 0)) _ v r.2 in
      let n = ends_ok h 0 (eqb h.reference 0) s.0 s.1 in
      let g : cell_status h.time b ≡ v = ok_is _ v s.2 in
      rw (← g) (record {
        head = is_header h CellStatus 0 0 k n.0 (eqb-true _ _ n.1);
        content = y.0;
        fit = and_from _ _ (timed h.time hr.time) y.1;
      })

  -- a record that was read, in the frame of its type
  wrapped : {A : Type 0} (r : Result A FrameFault) (make : A → FrameV) (v : FrameV) → ((x : A) → r ≡ Ok x → Inverse xs h (make x))
      → made_of make r ≡ Ok v → Inverse xs h v
  wrapped r make v f e =
      let t = then_ok r _ v e in
      let g : make t.0 ≡ v = ok_is _ v t.2 in
      rw (← g) (f t.0 t.1)

  three : (v : FrameV) → (header_of v ≡ Some h) × (data_of v ≡ drop 18 xs) × (carried v ≡ true) → Inverse xs h v
  three v i = record { head = i.0; content = i.1; fit = i.2 }

  inverse : (k : MetaType) (v : FrameV) → h.kind ≡ k → by_type k xs h ≡ Ok v → Inverse xs h v
  inverse Rejection v k e = rejection_inverse v k e
  inverse YouAreDead v k e = dead_inverse v k e
  inverse Invite v k e = wrapped (read_change Invitation xs h) invite v (λ c q. three (invite c) (change_inverse Invitation Invite c k (λ n. eqb-true _ 8 n) q)) e
  inverse Disinvite v k e = wrapped (read_change Invitation xs h) disinvite v (λ c q. three (disinvite c) (change_inverse Invitation Disinvite c k (λ n. eqb-true _ 8 n) q)) e
  inverse ModuleRegistration v k e = registration_inverse v k e
  inverse YouAreIn v k e = in_inverse v k e
  inverse IAmStarting v k e = wrapped (read_named true xs h) (i_am_starting h.time) v (λ m q. three (i_am_starting h.time m) (named_inverse true IAmStarting m k (λ n. eqb-true _ 4 n) q)) e
  inverse Subscribe v k e = wrapped (read_change Subscription xs h) subscribe v (λ c q. three (subscribe c) (change_inverse Subscription Subscribe c k (λ n. eqb-true _ 8 n) q)) e
  inverse Unsubscribe v k e = wrapped (read_change Subscription xs h) unsubscribe v (λ c q. three (unsubscribe c) (change_inverse Subscription Unsubscribe c k (λ n. eqb-true _ 8 n) q)) e
  inverse IAmStopping v k e = wrapped (read_named false xs h) (i_am_stopping h.time) v (λ m q. three (i_am_stopping h.time m) (named_inverse false IAmStopping m k (λ n. eqb-true _ 4 n) q)) e
  inverse CellStatus v k e = status_inverse v k e

pub meta_inverse : (xs : List ℕ) (v : FrameV) → Octets xs → read_meta xs ≡ Ok v → (write v ≡ xs) × (carried v ≡ true)
meta_inverse xs v o e =
    let t = then_ok (read_header xs) _ v e in
    let h = t.0 in
    let hr = header_inverse xs h o t.1 in
    let i = inverse xs h o hr h.kind v refl t.2 in
    (rw (i.head, i.content) hr.octets, i.fit)
