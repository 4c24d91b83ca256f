-- What the registrar does to its book, an end that has its book does to its view when it reads what it is told. Assumes nothing.
use Rattle.std.proofs.Common.{◌≡◌, ℕ, Bool, true, false, cond, ◌&&◌, eqb, ◌⊎◌, List, [], ◌∷◌, ◌++◌, sym, refl, ap, ◌∙◌, inl, inr, arith}
use Rattle.std.proofs.lemmas.Bool.{both_ways, eqb-false, ne_eqb, or_from, cond_both, cond-true, cond-false}
use Rattle.words.specs.declared.member.Member.{Member}
use Rattle.words.specs.declared.module_id.ModuleId.{ModuleId}
use Rattle.words.specs.declared.reason.Reason.{Reason}
use Rattle.words.specs.declared.rule.Rule.{Rule}
use Rattle.words.specs.Records.{member_of, valid_member}
use Rattle.book.specs.declared.change.Change.{Change}
use Rattle.book.specs.declared.change.Change.TheVariants.{Starting, Stopping, Enter, Withdraw}
use Rattle.rules.specs.declared.standing.Standing.{Standing}
use Rattle.rules.specs.declared.standing.Standing.TheVariants.{Out, Asked, In}
use Rattle.rules.specs.Listings.{Listing, has, accepts, changed, Whole}
use Rattle.rules.specs.Meanings.{Meaning, rejects, dead, changes, applies, welcomes, reports, carries, garbled, is_message}
use Rattle.rules.specs.Ends.{Place, place, gone, names, answers, reads, reading}
use Rattle.rules.proofs.Books.{one_at_port, stopped_was, started_was}
use Rattle.rules.proofs.Waits.{AllMessages}

pub reading-++ : (p : ℕ) (e : Place) (a b : List Meaning) → reading p e (a ++ b) ≡ reading p (reading p e a) b
reading-++ p e [] b = refl
reading-++ p e (f ∷ a) b = reading-++ p (reads p e.standing e.view f) a b

-- an end with this standing and view, in as the book says, has the book
abbrev pub Agrees : ℕ → Listing → Place → Type 0
Agrees p b e = (n r : ℕ) → e.standing ≡ In n r → has (member_of n r p) b ≡ true → e.view ≡ b

-- the frame f tells the end at p of the book's change from b to c
pub record Follows (p : ℕ) (b c : Listing) (f : Meaning) : Type 0 where
  pub calm : (m : Standing) (v : Listing) → (reads p m v f).standing ≡ m
  pub was : (n r : ℕ) → has (member_of n r p) c ≡ true → has (member_of n r p) b ≡ true
  pub moves : (n r : ℕ) → has (member_of n r p) c ≡ true → (reads p (In n r) b f).view ≡ c

pub agrees_follow : (p : ℕ) (b c : Listing) (f : Meaning) (e : Place) → Follows p b c f → Agrees p b e → Agrees p c (reads p e.standing e.view f)
agrees_follow p b c f e s a n r m h =
    let i : e.standing ≡ In n r = sym (s.calm e.standing e.view) ∙ m in
    let v : e.view ≡ b = a n r i (s.was n r h) in
    ap (λ k. (reads p k e.view f).view) i ∙ ap (λ k. (reads p (In n r) k f).view) v ∙ s.moves n r h

calm_change : (p : ℕ) (c : Change) (m : Standing) (v : Listing) → (reads p m v (changes c)).standing ≡ m
calm_change p c Out v = refl
calm_change p c (Asked r q) v = refl
calm_change p c (In n r) v = refl

-- a change that does not name those who are left at p is read as the book took it in
follows : (p : ℕ) (b : Listing) (c : Change) → accepts b c ≡ true
    → ((n r : ℕ) → has (member_of n r p) (changed b c) ≡ true → (has (member_of n r p) b ≡ true) × (names p n c ≡ false))
    → Follows p b (changed b c) (changes c)
follows p b c t k = record {
  calm = calm_change p c;
  was = λ n r e. (k n r e).0;
  moves = λ n r e. cond-false (names p n c) _ _ (k n r e).1 ∙ cond-true (accepts b c) _ _ t;
}

pub follows_rule : (p : ℕ) (b : Listing) (w : Member) (u : Rule) → accepts b (Enter w u) ≡ true → Follows p b (changed b (Enter w u)) (changes (Enter w u))
follows_rule p b w u t = follows p b (Enter w u) t (λ n r e. (e, refl))

pub follows_withdrawal : (p : ℕ) (b : Listing) (w : Member) (u : Rule) → accepts b (Withdraw w u) ≡ true → Follows p b (changed b (Withdraw w u)) (changes (Withdraw w u))
follows_withdrawal p b w u t = follows p b (Withdraw w u) t (λ n r e. (e, refl))

pub follows_stopping : (p : ℕ) (b : Listing) (w : Member) → Whole b → has w b ≡ true → Follows p b (changed b (Stopping w)) (changes (Stopping w))
follows_stopping p b w s h = follows p b (Stopping w) h λ n r e.
    let k = stopped_was b w (member_of n r p) s h e in
    let other : w.number ≡ n → ⊥ = λ z. k.1 (sym z) in
    let away : w.port ≡ p → ⊥ = λ z. other (ap (λ x. x.number) (one_at_port b s w (member_of n r p) h k.0 z)) in
    (k.0, or_from _ _ (ne_eqb _ _ other) (ne_eqb _ _ away))

pub follows_starting : (p : ℕ) (b : Listing) (w : Member) → Whole b → valid_member w ≡ true → eqb p w.port ≡ false → Follows p b (changed b (Starting w)) (changes (Starting w))
follows_starting p b w s h away = follows p b (Starting w) h (λ n r e. go n r (started_was b w (member_of n r p) s h e))
  where
    go : (n r : ℕ) → (member_of n r p ≡ w) ⊎ ((has (member_of n r p) b ≡ true) × (n ≡ w.number → ⊥) × (p ≡ w.port → ⊥))
        → (has (member_of n r p) b ≡ true) × (names p n (Starting w) ≡ false)
    go n r (inl z) = absurd (eqb-false p w.port away (ap (λ x. x.port) z))
    go n r (inr z) = (z.0, or_from _ _ (ne_eqb _ _ (λ y. z.1 (sym y))) (ne_eqb _ _ (λ y. z.2 (sym y))))

-- messages change nothing
reads_message : (p : ℕ) (s : Standing) (v : Listing) (m : Meaning) → is_message m ≡ true → reads p s v m ≡ place s v
reads_message p Out v m e = refl
reads_message p (Asked r q) v (rejects f y) e = refl
reads_message p (Asked r q) v (dead x) e = refl
reads_message p (Asked r q) v (changes c) e = refl
reads_message p (Asked r q) v (applies x a) e = refl
reads_message p (Asked r q) v (welcomes x w b) e = absurd (both_ways false refl e)
reads_message p (Asked r q) v (reports b) e = refl
reads_message p (Asked r q) v (carries h o) e = refl
reads_message p (Asked r q) v (garbled x) e = refl
reads_message p (In n r) v (rejects f y) e = refl
reads_message p (In n r) v (dead x) e = absurd (both_ways false refl e)
reads_message p (In n r) v (changes c) e = absurd (both_ways false refl e)
reads_message p (In n r) v (applies x a) e = refl
reads_message p (In n r) v (welcomes x w b) e = refl
reads_message p (In n r) v (reports b) e = absurd (both_ways false refl e)
reads_message p (In n r) v (carries h o) e = refl
reads_message p (In n r) v (garbled x) e = refl

pub reading-messages : (p : ℕ) (e : Place) (ms : List Meaning) → AllMessages ms → reading p e ms ≡ e
reading-messages p e [] h = refl
reading-messages p e (m ∷ ms) h = ap (λ k. reading p k ms) (reads_message p e.standing e.view m h.0) ∙ reading-messages p e ms h.1

pub reading-without : (p : ℕ) (e : Place) (a : List Meaning) (m : Meaning) (b : List Meaning) → is_message m ≡ true → reading p e (a ++ (m ∷ b)) ≡ reading p e (a ++ b)
reading-without p e [] m b h = ap (λ k. reading p k b) (reads_message p e.standing e.view m h)
reading-without p e (f ∷ a) m b h = reading-without p (reads p e.standing e.view f) a m b h

no_way : {A : Type 0} (n r : ℕ) (s : Standing) → Out ≡ In n r → A
no_way n r s e = let z : ◌≡◌ {A = ℕ} 0 1 = cc in let o : ⊥ = omega arith in absurd o

asked_no_way : {A : Type 0} (n r x q : ℕ) → Asked x q ≡ In n r → A
asked_no_way n r x q e = let z : ◌≡◌ {A = ℕ} 0 1 = cc in let o : ⊥ = omega arith in absurd o

-- a report that has the end gives it the book
pub agrees_report : (p : ℕ) (b : Listing) (s : Standing) (v : Listing) → Agrees p b (reads p s v (reports b))
agrees_report p b Out v n r i h = no_way n r Out i
agrees_report p b (Asked x q) v n r i h = asked_no_way n r x q i
agrees_report p b (In x y) v n r i h = go (has (member_of x y p) b) i
  where
    go : (t : Bool) → (cond t (place (In x y) b) gone).standing ≡ In n r → (cond t (place (In x y) b) gone).view ≡ b
    go true k = refl
    go false k = no_way n r Out k

-- and so does a welcome, unless the end is in already
abbrev pub Inside : Standing → Type 0
Inside Out = ⊥
Inside (Asked r q) = ⊥
Inside (In n r) = Unit {0}

pub agrees_welcome : (p : ℕ) (b : Listing) (s : Standing) (v : Listing) (q : ℕ) (w : Member) → (Inside s → ⊥) → Agrees p b (reads p s v (welcomes q w b))
agrees_welcome p b Out v q w k n r i h = no_way n r Out i
agrees_welcome p b (Asked x y) v q w k n r i h = go (answers p x y q w) i
  where
    go : (t : Bool) → (cond t (place (In w.number w.role) b) (place (Asked x y) v)).standing ≡ In n r → (cond t (place (In w.number w.role) b) (place (Asked x y) v)).view ≡ b
    go true l = refl
    go false l = asked_no_way n r x y l
agrees_welcome p b (In x y) v q w k n r i h = absurd (k tt)

-- a frame back to one end changes no view, and may put the end out
pub agrees_dead : (p : ℕ) (b : Listing) (s : Standing) (v : Listing) (m : ModuleId) → Agrees p b (place s v) → Agrees p b (reads p s v (dead m))
agrees_dead p b Out v m a = a
agrees_dead p b (Asked r q) v m a = a
agrees_dead p b (In k l) v m a = cond_both (eqb m.number k && eqb m.role l) _ _ (Agrees p b) (λ t n r i h. no_way n r Out i) (λ t. a)

pub reads_rejection : (p : ℕ) (s : Standing) (v : Listing) (f : ℕ) (y : Reason) → reads p s v (rejects f y) ≡ place s v
reads_rejection p Out v f y = refl
reads_rejection p (Asked r q) v f y = refl
reads_rejection p (In n r) v f y = refl
