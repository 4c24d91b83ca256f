-- In every state of a run the book and the views are books, and what waits was written of a record. Assumes nothing.
use Rattle.std.proofs.Common.{◌≡◌, ℕ, suc, ◌≤◌, Bool, true, false, cond, ◌&&◌, eqb, ltb, List, [], ◌∷◌, length, get_or, take, drop, Some, None, Option, sym, refl, ap, ◌∙◌, subst}
use Rattle.std.specs.List.{remove, AllByRecursion as All}
use Rattle.std.proofs.ByRecursion.{All-append, All-take, All-drop}
use Rattle.std.proofs.lemmas.Bool.{both_ways, and_parts, cond_both, eqb-true}
use Rattle.words.specs.Ranges.{within}
use Rattle.words.specs.Records.{member_of, valid_member}
use Rattle.wire.specs.Frames.{FrameV}
use Rattle.wire.specs.Writes.{write, carried}
use Rattle.wire.proofs.Forth.{read_written}
use Rattle.line.specs.Lines.{Rule as Fitting, Waiting}
use Rattle.line.specs.Offers.{offered}
use Rattle.rules.specs.declared.refusal.Refusal.{Refusal}
use Rattle.rules.specs.declared.standing.Standing.{Standing}
use Rattle.rules.specs.declared.standing.Standing.TheVariants.{Out, Asked, In}
use Rattle.rules.specs.Listings.{Whole}
use Rattle.rules.specs.Meanings.{said, said_by, meaning, is_message}
use Rattle.rules.specs.Registrar.{Sending}
use Rattle.rules.specs.Puts.{offer, offers, arrived}
use Rattle.rules.specs.Calls.{End, State, Taking, Outcome, refusing, state_by, line_less}
use Rattle.rules.proofs.Putting.{queued_at}

-- the octets are those of a record
pub record Written (o : List ℕ) : Type 0 where
  pub frame : FrameV
  pub may : carried frame ≡ true
  pub octets : o ≡ write frame

pub written : (v : FrameV) → carried v ≡ true → Written (write v)
written v h = record { frame = v; may = h; octets = refl }

pub means : (v : FrameV) → carried v ≡ true → meaning (write v) ≡ said v
means v h = ap said_by (read_written v h)

pub written_means : (o : List ℕ) (w : Written o) → meaning o ≡ said w.frame
written_means o w = ap meaning w.octets ∙ means w.frame w.may

-- an end is out, or at one of the fifteen ports; one that is in is a member that may stand
abbrev pub May : ℕ → Standing → Type 0
May p Out = Unit {0}
May p (Asked r q) = within 1 15 p ≡ true
May p (In n r) = valid_member (member_of n r p) ≡ true

pub record ProperEnd (p : ℕ) (e : End) : Type 0 where
  pub view : Whole e.view
  pub next : 1 ≤ e.next
  pub may : May p e.standing

pub record Proper (s : State) : Type 0 where
  pub book : Whole s.book
  pub lines : (p : ℕ) → All Written (s.line p)
  pub requests : All (λ o. is_message (meaning o) ≡ false) (s.line 0)
  pub ends : (p : ℕ) → ProperEnd p (s.ends p)

-- what was put at a port has what each frame for it has
pub arrived_all : (P : List ℕ → Type 0) (p : ℕ) (rule : Fitting) (w : Waiting) (xs : List Sending) → All (λ (x : Sending). eqb p x.port ≡ true → P x.octets) xs → All P (arrived p (offers rule w xs))
arrived_all P p rule w [] h = tt
arrived_all P p rule w (x ∷ xs) h =
    cond_both (eqb p x.port && (offer rule w x).fitted) _ _ (All P)
    (λ e. (h.0 (and_parts _ _ e).0, arrived_all P p rule (offered rule w x.port x.octets) xs h.1))
    (λ e. arrived_all P p rule (offered rule w x.port x.octets) xs h.1)

pub removed_all : {A : Type 0} (P : A → Type 0) (xs : List A) (i : ℕ) → All P xs → All P (remove xs i)
removed_all P xs i h = All-append P (take i xs) (drop (suc i) xs) (All-take P i xs h) (All-drop P (suc i) xs h)

less_all : (P : List ℕ → Type 0) (w : Waiting) (t : Option Taking) (p : ℕ) → All P (w p) → All P (line_less w t p)
less_all P w None p h = h
less_all P w (Some x) p h =
    cond_both (eqb p x.port) _ _ (All P) (λ e. removed_all P (w x.port) x.place (subst (λ q. All P (w q)) (eqb-true p x.port e) h)) (λ e. h)

pub line_all : (P : List ℕ → Type 0) (s : State) (o : Outcome) (p : ℕ) → All P (s.line p) → All (λ (x : Sending). eqb p x.port ≡ true → P x.octets) o.sends → All P ((state_by s o).line p)
line_all P s o p h k =
    let w : Waiting = line_less s.line o.takes in
    subst (All P) (sym (queued_at s.fitting w o.sends p))
    (All-append P (w p) (arrived p (offers s.fitting w o.sends)) (less_all P s.line o.takes p h) (arrived_all P p s.fitting w o.sends k))

-- frames that may be put: each is the writing of a record, and none for the registrar is a message
abbrev pub Mailable : Sending → Type 0
Mailable x = Written x.octets × (eqb 0 x.port ≡ true → is_message (meaning x.octets) ≡ false)

all_when : (P : List ℕ → Type 0) (p : ℕ) (xs : List Sending) → ((x : Sending) → Mailable x → eqb p x.port ≡ true → P x.octets) → All Mailable xs → All (λ (x : Sending). eqb p x.port ≡ true → P x.octets) xs
all_when P p [] f h = tt
all_when P p (x ∷ xs) f h = (f x h.0, all_when P p xs f h.1)

-- what a call does leaves a proper state, if its book, its ends and its frames are so
pub proper_by : (s : State) (o : Outcome) → Proper s → Whole o.book → ((p : ℕ) → ProperEnd p (o.ends p)) → All Mailable o.sends → Proper (state_by s o)
proper_by s o h b e k = record {
  book = b;
  lines = λ p. line_all Written s o p (h.lines p) (all_when Written p o.sends (λ x m z. m.0) k);
  requests = line_all (λ x. is_message (meaning x) ≡ false) s o 0 h.requests (all_when (λ x. is_message (meaning x) ≡ false) 0 o.sends (λ x m z. m.1 z) k);
  ends = e;
}

pub proper_refused : (s : State) (r : Refusal) → Proper s → Proper (state_by s (refusing s r))
proper_refused s r h = proper_by s (refusing s r) h h.book h.ends tt

-- one end more that is proper
pub proper_at : (s : State) (p : ℕ) (e : End) → Proper s → ProperEnd p e → (q : ℕ) → ProperEnd q (cond (eqb q p) e (s.ends q))
proper_at s p e h k q = go (eqb q p) refl
  where
    go : (v : Bool) → eqb q p ≡ v → ProperEnd q (cond v e (s.ends q))
    go true z = subst (λ x. ProperEnd x e) (sym (eqb-true q p z)) k
    go false z = h.ends q

-- the frame at a place of a port
pub taken_there : {A : Type 0} (xs : List A) (d : A) → ltb 0 (length xs) ≡ true → xs ≡ get_or xs 0 d ∷ remove xs 0
taken_there [] d h = absurd (both_ways false refl h)
taken_there (x ∷ xs) d h = refl
