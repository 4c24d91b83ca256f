-- Copies add up. Assumes nothing.
use Rattle.std.proofs.Common.{◌≡◌, ℕ, suc, ◌+◌, ◌-◌, ◌*◌, ◌/◌, ◌%◌, ◌<◌, ◌≤◌, Bool, true, false, cond, not, ◌&&◌, ◌||◌, eqb, ltb, leb, ◌⊎◌, List, [], ◌∷◌, ◌++◌, map, length, get_or, take, drop, sym, refl, ap, ◌∙◌, subst, inl, inr, append-nil, arith, length-append}
use Rattle.std.specs.List.{remove, AllByRecursion as All}
use Rattle.std.proofs.lemmas.List.Elements.{filter-append}
use Rattle.std.proofs.ByRecursion.{All-get_or}
use Rattle.std.proofs.lemmas.Bool.{and_from, and_parts, lt-ltb, not-true, cond-true, cond-false, eqb-true, ltb-true, leb-true, le-ltb}
use Rattle.words.specs.declared.member.Member.{Member}
use Rattle.words.specs.declared.head.MessageHead.{MessageHead}
use Rattle.words.specs.declared.message_kind.MessageKind.{MessageKind}
use Rattle.words.specs.declared.message_kind.MessageKind.TheVariants.{Published, Announced, Private}
use Rattle.words.specs.Heads.{kind_number, valid_head}
use Rattle.words.proofs.Trips.{head_bounds}
use Rattle.words.specs.Records.{id_of, module_by, valid_member}
use Rattle.wire.specs.declared.meta_type.MetaType.{MetaType}
use Rattle.wire.specs.declared.meta_type.MetaType.TheVariants.{Rejection, YouAreDead, YouAreIn}
use Rattle.wire.specs.Frames.{FrameV, rejection, you_are_dead, invite, disinvite, module_registration, you_are_in, i_am_starting, subscribe, unsubscribe, i_am_stopping, cell_status, message}
use Rattle.wire.specs.Writes.{write, carried}
use Rattle.line.specs.Lines.{Waiting}
use Rattle.book.specs.declared.audience.Audience.{Audience}
use Rattle.book.specs.Matching.{recipients, receives, some}
use Rattle.book.specs.Sound.{each, other_port, ports_apart}
use Rattle.book.proofs.Keeping.{ports_kept}
use Rattle.rules.specs.declared.answer.Answer.{Answer}
use Rattle.rules.specs.declared.answer.Answer.TheVariants.{Done, Query}
use Rattle.rules.specs.declared.lost.Lost.TheVariants.{Message, Other}
use Rattle.rules.specs.declared.received.Received.TheVariants.{HandedOver, TurnedAside, Read, Rejected, SetAside}
use Rattle.rules.specs.declared.refusal.Refusal.{Refusal}
use Rattle.rules.specs.declared.standing.Standing.{Standing}
use Rattle.rules.specs.declared.standing.Standing.TheVariants.{Out, Asked, In}
use Rattle.rules.specs.Codes.{received_code, lost_code, lost_by}
use Rattle.rules.specs.Listings.{Listing, accepts}
use Rattle.rules.specs.Meanings.{Meaning, rejects, dead, changes, applies, welcomes, reports, carries, garbled, said, meaning, is_message}
use Rattle.rules.specs.Ends.{names, answers, change_type, received, wanted}
use Rattle.rules.specs.Registrar.{one_if, Sending, sending}
use Rattle.line.specs.Laws.{in_mask}
use Rattle.rules.specs.Puts.{Put, arrived, reached_mask}
use Rattle.rules.specs.Calls.{End, State, Call, register, unregister, request, tell, receive, serve, report, lose, Outcome, refusing, passed, putting, sender, copy_for, copies, register_done, registering, unregister_done, stopping, request_done, requesting, tell_checks, tell_done, frame_at, receive_checks, receive_done, serve_checks, serve_done, report_checks, report_done, reporting, lose_checks, lose_done, outcome, Given, Event, line_less, puts_of, event_by, state_by, event, after}
use Rattle.rules.specs.Runs.{History, begin, ◌▹◌, Reached}
use Rattle.rules.specs.Copies.{Octets, mask_reached, put_there, read_as, lost_from, puts, handed_over, turned_aside, lost_ones, put_count, messages, CopiesAddUp}
use Rattle.rules.proofs.Agreeing.{split_at, copies_arrive, official_arrive}
use Rattle.rules.proofs.Carried.{member_port, high_part}
use Rattle.rules.proofs.Cases.{each_call}
use Rattle.rules.proofs.Dispatch.{eqb_swap}
use Rattle.rules.proofs.Kept.{held, registering-carried, stopping-carried, requesting-carried, request_plain, recipients_valid, reporting-carried, proper}
use Rattle.rules.proofs.Ledger.{Ledger, ledger_put, ledger_hand, ledger_turn, ledger_lose, less_removed, fates}
use Rattle.line.proofs.Masks.{in_none}
use Rattle.rules.proofs.Masks.{mask_at}
use Rattle.rules.proofs.Proper.{Written, means, written_means, Proper, arrived_all, taken_there}
use Rattle.rules.proofs.Putting.{Few, sent, missed_at, one_put, ports_of, queued_at}

cond_same : {A : Type 0} (b : Bool) (x : A) → cond b x x ≡ x
cond_same true x = refl
cond_same false x = refl

no_messages : (os : List Octets) → All (λ o. is_message (meaning o) ≡ false) os → messages os ≡ []
no_messages [] h = refl
no_messages (o ∷ os) h = cond-false _ _ _ h.0 ∙ no_messages os h.1

all_messages : (os : List Octets) → All (λ o. is_message (meaning o) ≡ true) os → messages os ≡ os
all_messages [] h = refl
all_messages (o ∷ os) h = cond-true _ _ _ h.0 ∙ ap (λ m. o ∷ m) (all_messages os h.1)

shift : {xs xs' hs hs' ts ts' ws ws' : List Octets} {n n' : ℕ} → xs ≡ xs' → hs ≡ hs' → ts ≡ ts' → n ≡ n' → ws ≡ ws' → Ledger xs hs ts n ws → Ledger xs' hs' ts' n' ws'
shift {xs} {xs'} {hs} {hs'} {ts} {ts'} {ws} {ws'} {n} {n'} a b c d e l =
    subst (λ x. Ledger x hs' ts' n' ws') a (subst (λ x. Ledger xs x ts' n' ws') b (subst (λ x. Ledger xs hs x n' ws') c (subst (λ x. Ledger xs hs ts x ws') d (subst (λ x. Ledger xs hs ts n x) e l))))

-- a message is told by its first octet
first_of_message : (h : MessageHead) (o : List ℕ) → carried (message h o) ≡ true → lost_by (get_or (write (message h o)) 0 0) ≡ Message
first_of_message h o k =
    let b = head_bounds h (and_parts (valid_head h) (leb (length o) 1000) k).0 in
    cond-false _ _ _ (le-ltb _ 128 (high_bits (kind_number h.kind) h.receiver h.role h.subject (low_kind h.kind) b.receiver b.role b.subject))
  where
    low_kind : (k : MessageKind) → (8 ≤ kind_number k) × (kind_number k ≤ 10)
    low_kind Published = (omega arith, omega arith)
    low_kind Announced = (omega arith, omega arith)
    low_kind Private = (omega arith, omega arith)

    high_bits : (k n r s : ℕ) → (8 ≤ k) × (k ≤ 10) → n ≤ 255 → r ≤ 255 → s ≤ 4095 → 128 ≤ (k * 268435456 + n * 1048576 + r * 4096 + s) / 16777216 % 256
    high_bits k n r s l x y z = omega arith

pub lost_is : (v : FrameV) → carried v ≡ true → lost_by (get_or (write v) 0 0) ≡ cond (is_message (said v)) Message Other
lost_is (rejection t f y) h = refl
lost_is (you_are_dead t m) h = refl
lost_is (invite c) h = refl
lost_is (disinvite c) h = refl
lost_is (module_registration t q a) h = refl
lost_is (you_are_in t q m b) h = refl
lost_is (i_am_starting t m) h = refl
lost_is (subscribe c) h = refl
lost_is (unsubscribe c) h = refl
lost_is (i_am_stopping t m) h = refl
lost_is (cell_status t b) h = refl
lost_is (message x o) h = first_of_message x o h

-- what receive answers for a message, and for another frame
abbrev ReadCode : Bool → ℕ → Type 0
ReadCode true k = (k ≡ 1) ⊎ (k ≡ 2)
ReadCode false k = (eqb k 1 ≡ false) × (eqb k 2 ≡ false)

code_if : (b : Bool) (n : ℕ) → ReadCode true (received_code (cond b (HandedOver n) (TurnedAside n)))
code_if true n = inl refl
code_if false n = inr refl

other_if : (b : Bool) (k : MetaType) → ReadCode false (received_code (cond b (Read k) (SetAside k)))
other_if true k = (refl, refl)
other_if false k = (refl, refl)

received_so : (p : ℕ) (st : Standing) (v : Listing) (m : Meaning) → ReadCode (is_message m) (received_code (received p st v m))
received_so p Out v (rejects f y) = (refl, refl)
received_so p Out v (dead x) = (refl, refl)
received_so p Out v (changes c) = (refl, refl)
received_so p Out v (applies x a) = (refl, refl)
received_so p Out v (welcomes x w b) = (refl, refl)
received_so p Out v (reports b) = (refl, refl)
received_so p Out v (carries h o) = inr refl
received_so p Out v (garbled e) = (refl, refl)
received_so p (Asked r q) v (rejects f y) = (refl, refl)
received_so p (Asked r q) v (dead x) = (refl, refl)
received_so p (Asked r q) v (changes c) = (refl, refl)
received_so p (Asked r q) v (applies x a) = (refl, refl)
received_so p (Asked r q) v (welcomes x w b) = other_if (answers p r q x w) YouAreIn
received_so p (Asked r q) v (reports b) = (refl, refl)
received_so p (Asked r q) v (carries h o) = inr refl
received_so p (Asked r q) v (garbled e) = (refl, refl)
received_so p (In n r) v (rejects f y) = go (eqb f (id_of (module_by n r)))
  where
    go : (b : Bool) → ReadCode false (received_code (cond b (Rejected y) (SetAside Rejection)))
    go true = (refl, refl)
    go false = (refl, refl)
received_so p (In n r) v (dead x) = other_if (eqb x.number n && eqb x.role r) YouAreDead
received_so p (In n r) v (changes c) = other_if (not (names p n c) && accepts v c) (change_type c)
received_so p (In n r) v (applies x a) = (refl, refl)
received_so p (In n r) v (welcomes x w b) = (refl, refl)
received_so p (In n r) v (reports b) = (refl, refl)
received_so p (In n r) v (carries h o) = code_if (wanted p n r v h) h.sender
received_so p (In n r) v (garbled e) = (refl, refl)

module _ (p : ℕ) where
  -- one call: the ledger after it has what the history says
  abbrev After : State → Call → (xs hs ts ls : List Octets) → Outcome → Type 0
  After s c xs hs ts ls o =
      Ledger (xs ++ put_there p (event_by s c o)) (hs ++ read_as 1 p (event_by s c o)) (ts ++ read_as 2 p (event_by s c o)) (length (ls ++ lost_from p (event_by s c o))) (messages ((state_by s o).line p))

  abbrev Books : State → (xs hs ts ls : List Octets) → Type 0
  Books s xs hs ts ls = Ledger xs hs ts (length ls) (messages (s.line p))

  more : (xs ys : List Octets) → ys ≡ [] → xs ≡ xs ++ ys
  more xs ys e = sym (ap (λ m. xs ++ m) e ∙ append-nil xs)

  -- nothing becomes of any copy
  quiet : (s : State) (c : Call) (o : Outcome) (xs hs ts ls : List Octets) → mask_reached (o.answer (puts_of s o)) ≡ 0 → read_as 1 p (event_by s c o) ≡ [] → read_as 2 p (event_by s c o) ≡ [] → lost_from p (event_by s c o) ≡ []
      → messages (s.line p) ≡ messages ((state_by s o).line p) → Books s xs hs ts ls → After s c xs hs ts ls o
  quiet s c o xs hs ts ls a b d e w l =
      shift (more xs _ (ap (λ x. cond (in_mask x p) (arrived p (puts_of s o)) []) a ∙ cond-false (in_mask 0 p) _ _ (in_none p))) (more hs _ b) (more ts _ d) (ap length (more ls _ e)) w l

  -- frames that are no messages come to what waits
  others_wait : (s : State) (o : Outcome) → messages (s.line p) ≡ messages (line_less s.line o.takes p) → All (λ x. is_message (meaning x) ≡ false) (arrived p (puts_of s o)) → messages (s.line p) ≡ messages ((state_by s o).line p)
  others_wait s o e k =
      let w : Waiting = line_less s.line o.takes in
      e ∙ sym (ap messages (queued_at s.fitting w o.sends p) ∙ filter-append (λ x. is_message (meaning x)) (w p) (arrived p (puts_of s o)) ∙ ap (λ m. messages (w p) ++ m) (no_messages _ k) ∙ append-nil (messages (w p)))

  -- one frame that is no message is put
  put_quiet : (s : State) (c : Call) (q : ℕ) (v : FrameV) (a : Answer) (ends : ℕ → End) (xs hs ts ls : List Octets) → carried v ≡ true → is_message (said v) ≡ false → mask_reached a ≡ 0
      → read_as 1 p (event_by s c (putting s q v a ends)) ≡ [] → read_as 2 p (event_by s c (putting s q v a ends)) ≡ [] → lost_from p (event_by s c (putting s q v a ends)) ≡ [] → Books s xs hs ts ls → After s c xs hs ts ls (putting s q v a ends)
  put_quiet s c q v a ends xs hs ts ls k m z r t u l =
      quiet s c (putting s q v a ends) xs hs ts ls z r t u
      (others_wait s (putting s q v a ends) refl (arrived_all (λ x. is_message (meaning x) ≡ false) p s.fitting s.line (sending q (write v) ∷ []) (λ e. ap is_message (means v k) ∙ m, tt))) l

  refused : (s : State) (c : Call) (r : Refusal) (xs hs ts ls : List Octets) → Books s xs hs ts ls → After s c xs hs ts ls (refusing s r)
  refused s c r xs hs ts ls l = quiet s c (refusing s r) xs hs ts ls refl refl refl refl refl l

  serve_quiet : (s : State) (t a b n : ℕ) (xs hs ts ls : List Octets) → Proper s → Given s (serve t a b) n → passed (serve_checks s t a b) ≡ true → Books s xs hs ts ls → After s (serve t a b) xs hs ts ls (serve_done s t n)
  serve_quiet s t a b n xs hs ts ls ok g k l =
      quiet s (serve t a b) (serve_done s t n) xs hs ts ls refl refl refl refl (others_wait s (serve_done s t n) (go (eqb p 0) refl) (official_arrive s t a b n ok g k p)) l
    where
      there : ltb 0 (length (s.line 0)) ≡ true
      there = (held (serve_checks s t a b) k).1.1.1.0

      dull : is_message (meaning (frame_at s 0 0)) ≡ false
      dull = All-get_or (λ x. is_message (meaning x) ≡ false) (s.line 0) 0 [] (ltb-true 0 (length (s.line 0)) there) ok.requests

      go : (v : Bool) → eqb p 0 ≡ v → messages (s.line p) ≡ messages (cond v (remove (s.line 0) 0) (s.line p))
      go true z = ap (λ q. messages (s.line q)) (eqb-true p 0 z) ∙ ap messages (taken_there (s.line 0) [] there) ∙ cond-false (is_message (meaning (frame_at s 0 0))) _ _ dull
      go false z = refl

  read_step : (s : State) (q b : ℕ) (xs hs ts ls : List Octets) → passed (receive_checks s q b) ≡ true → Books s xs hs ts ls → After s (receive q b) xs hs ts ls (receive_done s q)
  read_step s q b xs hs ts ls k l = go (eqb p q) refl
    where
      o : Octets
      o = frame_at s q 0

      code : ℕ
      code = received_code (received q (s.ends q).standing (s.ends q).view (meaning o))

      there : ltb 0 (length (s.line q)) ≡ true
      there = (held (receive_checks s q b) k).1.1.0

      Goal : Bool → ℕ → Type 0
      Goal v j = Ledger (xs ++ cond (in_mask 0 p) [] []) (hs ++ cond (eqb j 1) (one_if v o) []) (ts ++ cond (eqb j 2) (one_if v o) []) (length (ls ++ [])) (messages (cond v (remove (s.line q) 0) (s.line p)))

      here : eqb p q ≡ true → s.line p ≡ o ∷ remove (s.line q) 0
      here z = ap s.line (eqb-true p q z) ∙ taken_there (s.line q) [] there

      none : xs ≡ xs ++ cond (in_mask 0 p) [] []
      none = more xs _ (cond_same (in_mask 0 p) [])

      same : length ls ≡ length (ls ++ [])
      same = ap length (sym (append-nil ls))

      as_message : eqb p q ≡ true → is_message (meaning o) ≡ true → (code ≡ 1) ⊎ (code ≡ 2) → Goal true code
      as_message z m (inl j) =
          subst (Goal true) (sym j) (shift none refl (sym (append-nil ts)) same refl (ledger_hand _ _ _ _ _ l o (messages (remove (s.line q) 0)) (ap messages (here z) ∙ cond-true _ _ _ m)))
      as_message z m (inr j) =
          subst (Goal true) (sym j) (shift none (sym (append-nil hs)) refl same refl (ledger_turn _ _ _ _ _ l o (messages (remove (s.line q) 0)) (ap messages (here z) ∙ cond-true _ _ _ m)))

      as_other : eqb p q ≡ true → is_message (meaning o) ≡ false → (eqb code 1 ≡ false) × (eqb code 2 ≡ false) → Goal true code
      as_other z m j =
          shift none (more hs _ (cond-false (eqb code 1) _ _ j.0)) (more ts _ (cond-false (eqb code 2) _ _ j.1)) same (ap messages (here z) ∙ cond-false _ _ _ m) l

      inner : eqb p q ≡ true → (m : Bool) → is_message (meaning o) ≡ m → ReadCode m code → Goal true code
      inner z true y j = as_message z y j
      inner z false y j = as_other z y j

      go : (v : Bool) → eqb p q ≡ v → Goal v code
      go true z = inner z (is_message (meaning o)) refl (received_so q (s.ends q).standing (s.ends q).view (meaning o))
      go false z = shift none (more hs _ (cond_same (eqb code 1) [])) (more ts _ (cond_same (eqb code 2) [])) same refl l

  lose_step : (s : State) (q k : ℕ) (xs hs ts ls : List Octets) → Proper s → passed (lose_checks s q k) ≡ true → Books s xs hs ts ls → After s (lose q k) xs hs ts ls (lose_done s q k)
  lose_step s q k xs hs ts ls ok y l =
      let c = held (lose_checks s q k) y in
      let e = and_parts (ltb 0 k) (leb k (length (s.line q))) c.1.0 in
      let low = ltb-true 0 k e.0 in
      let high = leb-true k (length (s.line q)) e.1 in
      let small : k - 1 < length (s.line q) = omega arith in
      let w : Written (frame_at s q (k - 1)) = All-get_or Written (s.line q) (k - 1) [] small (ok.lines q) in
      let told : lost_by (get_or o 0 0) ≡ cond (is_message (meaning o)) Message Other = ap (λ x. lost_by (get_or x 0 0)) w.octets ∙ lost_is w.frame w.may ∙ ap (λ x. cond (is_message x) Message Other) (sym (written_means o w)) in
      subst (Goal (eqb p q)) (sym (ap lost_code told)) (go small (eqb p q) refl)
    where
      i : ℕ
      i = k - 1

      o : Octets
      o = frame_at s q i

      before : List Octets
      before = take i (s.line q)

      behind : List Octets
      behind = drop (suc i) (s.line q)

      Goal : Bool → ℕ → Type 0
      Goal v j = Ledger (xs ++ cond (in_mask 0 p) [] []) (hs ++ []) (ts ++ []) (length (ls ++ cond (eqb j 1) (one_if v o) [])) (messages (cond v (remove (s.line q) i) (s.line p)))

      none : xs ≡ xs ++ cond (in_mask 0 p) [] []
      none = more xs _ (cond_same (in_mask 0 p) [])

      line_is : i < length (s.line q) → eqb p q ≡ true → messages (s.line p) ≡ messages before ++ messages (o ∷ behind)
      line_is small z = ap messages (ap s.line (eqb-true p q z) ∙ split_at (s.line q) i [] small) ∙ filter-append (λ x. is_message (meaning x)) before (o ∷ behind)

      left : messages (remove (s.line q) i) ≡ messages before ++ messages behind
      left = filter-append (λ x. is_message (meaning x)) before behind

      less_mid : (a : List Octets) (x : Octets) (b : List Octets) → remove (a ++ (x ∷ b)) (length a) ≡ a ++ b
      less_mid [] x b = refl
      less_mid (y ∷ a) x b = ap (λ m. y ∷ m) (less_mid a x b)

      inner : i < length (s.line q) → eqb p q ≡ true → (m : Bool) → is_message (meaning o) ≡ m → Goal true (lost_code (cond m Message Other))
      inner small z true y =
          let e : messages (s.line p) ≡ messages before ++ (o ∷ messages behind) = line_is small z ∙ ap (λ x. messages before ++ x) (cond-true _ _ _ y) in
          let fits : length (messages before) < length (messages (s.line p)) = subst (λ x. length (messages before) < length x) (sym e) (simp length-append (omega arith)) in
          shift none (sym (append-nil hs)) (sym (append-nil ts)) (sym (length-append ls (o ∷ [])))
          (less_removed (messages (s.line p)) (length (messages before)) ∙ ap (λ x. remove x (length (messages before))) e ∙ less_mid (messages before) o (messages behind) ∙ sym left)
          (ledger_lose _ _ _ _ _ l (length (messages before)) fits)
      inner small z false y =
          shift none (sym (append-nil hs)) (sym (append-nil ts)) (ap length (sym (append-nil ls))) (line_is small z ∙ ap (λ x. messages before ++ x) (cond-false _ _ _ y) ∙ sym left) l

      go : i < length (s.line q) → (v : Bool) → eqb p q ≡ v → Goal v (lost_code (cond (is_message (meaning o)) Message Other))
      go small true z = inner small z (is_message (meaning o)) refl
      go small false z = shift none (sym (append-nil hs)) (sym (append-nil ts)) (ap length (more ls _ (cond_same (eqb (lost_code (cond (is_message (meaning o)) Message Other)) 1) []))) refl l

  -- at most one copy for a port
  few_copies : (f : Member → Octets) (ms : List Member) → ports_apart ms ≡ true → Few (sent p (map (λ m. sending m.port (f m)) ms))
  few_copies f [] h = tt
  few_copies f (m ∷ ms) h =
      let a = and_parts (each (other_port m.port) ms) (ports_apart ms) h in
      go (eqb p m.port) refl a.0 (few_copies f ms a.1)
    where
      nobody : (ys : List Member) → each (other_port p) ys ≡ true → sent p (map (λ y. sending y.port (f y)) ys) ≡ []
      nobody [] k = refl
      nobody (y ∷ ys) k =
          let b = and_parts (other_port p y) (each (other_port p) ys) k in
          cond-false (eqb p y.port) _ _ (eqb_swap p y.port ∙ not-true (eqb y.port p) b.0) ∙ nobody ys b.1

      go : (v : Bool) → eqb p m.port ≡ v → each (other_port m.port) ms ≡ true → Few (sent p (map (λ y. sending y.port (f y)) ms))
          → Few (cond v (f m ∷ sent p (map (λ y. sending y.port (f y)) ms)) (sent p (map (λ y. sending y.port (f y)) ms)))
      go true z k ih = subst (λ x. Few (f m ∷ x)) (sym (nobody ms (subst (λ q. each (other_port q) ms ≡ true) (sym (eqb-true p m.port z)) k))) tt
      go false z k ih = ih

  -- a copy reached the port p
  abbrev reached_at : List Put → Bool
  reached_at ps = some (λ x. x.fitted && eqb p x.port) ps

  reached_some : (ps : List Put) → cond (reached_at ps) (arrived p ps) [] ≡ arrived p ps
  reached_some [] = refl
  reached_some (x ∷ ps) = go x.fitted (eqb p x.port) (reached_some ps)
    where
      go : (f v : Bool) → cond (reached_at ps) (arrived p ps) [] ≡ arrived p ps → cond ((f && v) || reached_at ps) (cond (v && f) (x.octets ∷ arrived p ps) (arrived p ps)) [] ≡ cond (v && f) (x.octets ∷ arrived p ps) (arrived p ps)
      go true true ih = refl
      go true false ih = ih
      go false true ih = ih
      go false false ih = ih

  reached_count : (ps : List Put) → Few (arrived p ps) → cond (reached_at ps) 1 0 ≡ length (arrived p ps)
  reached_count [] h = refl
  reached_count (x ∷ ps) h = go x.fitted (eqb p x.port) h (reached_count ps)
    where
      one_more : Few (x.octets ∷ arrived p ps) → arrived p ps ≡ []
      one_more k = few_tail (arrived p ps) k
        where
          few_tail : (os : List Octets) → Few (x.octets ∷ os) → os ≡ []
          few_tail [] z = refl
          few_tail (y ∷ os) z = absurd z

      go : (f v : Bool) → Few (cond (v && f) (x.octets ∷ arrived p ps) (arrived p ps)) → (Few (arrived p ps) → cond (reached_at ps) 1 0 ≡ length (arrived p ps))
          → cond ((f && v) || reached_at ps) 1 0 ≡ length (cond (v && f) (x.octets ∷ arrived p ps) (arrived p ps))
      go true true k ih = ap (λ y. suc (length y)) (sym (one_more k))
      go true false k ih = ih k
      go false true k ih = ih k
      go false false k ih = ih k

  few_if : (b : Bool) (os : List Octets) → Few os → Few (cond b [] os)
  few_if true os h = tt
  few_if false os h = h

  module _ (s : State) (a : Audience) (q x pr cx : ℕ) (body : List ℕ) (b : ℕ) (ok : Proper s) (k : passed (tell_checks s a q x pr cx body b) ≡ true) where
    abbrev pub ps : List Put
    ps = puts_of s (tell_done s a q x pr cx body)

    mask_is : in_mask (reached_mask ps) p ≡ reached_at ps
    mask_is = mask_at (λ y. y.fitted) ps p (ports_of s.fitting s.line (copies s a q x pr cx body) (ports _ (recipients_valid s a q x ok)))
      where
        ports : (ms : List Member) → All (λ m. valid_member m ≡ true) ms → each (λ (y : Sending). ltb y.port 64) (map (λ m. sending m.port (write (copy_for s a q x pr cx body m))) ms) ≡ true
        ports [] h = refl
        ports (m ∷ ms) h = and_from _ _ (lt-ltb m.port 64 (omega (arith, high_part 1 15 m.port (member_port m h.0)))) (ports ms h.1)

    few : Few (arrived p ps)
    few =
        let apart = ports_kept (receives (s.ends q).view.rules a (sender s q) x) (s.ends q).view.members (ok.ends q).view.ports in
        let one = few_copies (λ m. write (copy_for s a q x pr cx body m)) (recipients (s.ends q).view.members (s.ends q).view.rules a (sender s q) x) apart in
        subst Few (sym (one_put s.fitting s.line (copies s a q x pr cx body) p one)) (few_if (missed_at p ps) (sent p (copies s a q x pr cx body)) one)

    put_is : put_there p (event_by s (tell a q x pr cx body b) (tell_done s a q x pr cx body)) ≡ arrived p ps
    put_is = ap (λ z. cond z (arrived p ps) []) mask_is ∙ reached_some ps

    pub tell_count : cond (in_mask (reached_mask ps) p) 1 0 ≡ length (put_there p (event_by s (tell a q x pr cx body b) (tell_done s a q x pr cx body)))
    tell_count = ap (λ z. cond z 1 0) mask_is ∙ reached_count ps few ∙ ap length (sym put_is)

    pub tell_step : (xs hs ts ls : List Octets) → Books s xs hs ts ls → After s (tell a q x pr cx body b) xs hs ts ls (tell_done s a q x pr cx body)
    tell_step xs hs ts ls l =
        shift (ap (λ z. xs ++ z) (sym put_is)) (sym (append-nil hs)) (sym (append-nil ts)) (ap length (sym (append-nil ls)))
        (ap (λ z. messages (s.line p) ++ z) (sym (all_messages (arrived p ps) (copies_arrive s a q x pr cx body b ok k p))) ∙ sym (filter-append (λ y. is_message (meaning y)) (s.line p) (arrived p ps))
        ∙ ap messages (sym (queued_at s.fitting s.line (copies s a q x pr cx body) p)))
        (ledger_put _ _ _ _ _ l (arrived p ps))

  books_after : (s : State) (c : Call) (n : ℕ) (xs hs ts ls : List Octets) → Proper s → Given s c n → Books s xs hs ts ls → After s c xs hs ts ls (outcome s c n)
  books_after s c n xs hs ts ls ok g l =
      each_call s n (λ y o. After s y xs hs ts ls o) (λ y r. refused s y r xs hs ts ls l) (record {
        registers = λ q r t b y. put_quiet s (register q r t b) 0 (registering s q r t) (Query (s.ends q).next) (register_done s q r t).ends xs hs ts ls (registering-carried s q r t b ok y) refl refl refl refl refl l;
        unregisters = λ q t b y. put_quiet s (unregister q t b) 0 (stopping s q t) Done (unregister_done s q t).ends xs hs ts ls (stopping-carried s q t b ok y) refl refl refl refl refl l;
        requests = λ j q r x t b y. put_quiet s (request j q r x t b) 0 (requesting s j q r x t) Done s.ends xs hs ts ls (requesting-carried s j q r x t b ok y) (request_plain j _) refl refl refl refl l;
        tells = λ a q x pr cx body b y. tell_step s a q x pr cx body b ok y xs hs ts ls l;
        receives = λ q b y. read_step s q b xs hs ts ls y l;
        serves = λ t a b z y. serve_quiet s t a b n xs hs ts ls ok z y l;
        reports = λ q t b y. put_quiet s (report q t b) q (reporting s t) Done s.ends xs hs ts ls (reporting-carried s t ok (held (report_checks s q t b) y).1.1.0) refl refl refl refl refl l;
        loses = λ q j y. lose_step s q j xs hs ts ls ok y l;
      }) c g

  -- the bit of the mask reached is the copy put
  abbrev Counted : Event → Type 0
  Counted e = cond (in_mask (mask_reached e.answer) p) 1 0 ≡ length (put_there p e)

  uncounted : (e : Event) → mask_reached e.answer ≡ 0 → Counted e
  uncounted e z =
      let off : in_mask (mask_reached e.answer) p ≡ false = ap (λ x. in_mask x p) z ∙ in_none p in
      cond-false _ 1 0 off ∙ ap length (sym (cond-false _ (arrived p e.puts) [] off))

  counted_after : (s : State) (c : Call) (n : ℕ) → Proper s → Given s c n → Counted (event s c n)
  counted_after s c n ok g =
      each_call s n (λ y o. Counted (event_by s y o)) (λ y r. uncounted (event_by s y (refusing s r)) refl) (record {
        registers = λ q r t b y. uncounted (event_by s (register q r t b) (register_done s q r t)) refl;
        unregisters = λ q t b y. uncounted (event_by s (unregister q t b) (unregister_done s q t)) refl;
        requests = λ j q r x t b y. uncounted (event_by s (request j q r x t b) (request_done s j q r x t)) refl;
        tells = λ a q x pr cx body b y. tell_count s a q x pr cx body b ok y;
        receives = λ q b y. uncounted (event_by s (receive q b) (receive_done s q)) refl;
        serves = λ t a b z y. uncounted (event_by s (serve t a b) (serve_done s t n)) refl;
        reports = λ q t b y. uncounted (event_by s (report q t b) (report_done s q t)) refl;
        loses = λ q j y. uncounted (event_by s (lose q j) (lose_done s q j)) refl;
      }) c g

  books : (h : History) (s : State) → Reached s h → Books s (puts p h) (handed_over p h) (turned_aside p h) (lost_ones p h)
  books begin s past = record { copies = []; ordered = tt; all = refl; over = refl; aside = refl; gone = refl; still = sym (ap messages (past.nothing_waits p)) }
  books (h ▹ e) t past =
      let s : State = past.0 in
      let n : ℕ = past.2.number in
      subst (λ (u : State). Ledger (puts p (h ▹ e)) (handed_over p (h ▹ e)) (turned_aside p (h ▹ e)) (length (lost_ones p (h ▹ e))) (messages (u.line p))) (sym past.2.becomes)
      (subst (λ (x : Event). Ledger (puts p h ++ put_there p x) (handed_over p h ++ read_as 1 p x) (turned_aside p h ++ read_as 2 p x) (length (lost_ones p h ++ lost_from p x)) (messages ((after s e.call n).line p))) (sym past.2.happens)
      (books_after s e.call n (puts p h) (handed_over p h) (turned_aside p h) (lost_ones p h) (proper h s past.1) past.2.given (books h s past.1)))

  counted : (h : History) (s : State) → Reached s h → put_count p h ≡ length (puts p h)
  counted begin s past = refl
  counted (h ▹ e) t past =
      let s : State = past.0 in
      let k : Counted e = subst Counted (sym past.2.happens) (counted_after s e.call past.2.number (proper h s past.1) past.2.given) in
      let ih = counted h s past.1 in
      let l = length-append (puts p h) (put_there p e) in
      omega arith

pub copies_add_up : CopiesAddUp
copies_add_up h s past p =
    let b = books p h s past in
    let n = counted p h s past in
    let f = fates b.copies in
    record {
      copies = b.copies;
      all = b.all;
      over = b.over;
      aside = b.aside;
      gone = b.gone;
      still = b.still;
      count = omega (arith, ap length b.all, ap length b.over, ap length b.aside, b.gone, ap length b.still);
    }
