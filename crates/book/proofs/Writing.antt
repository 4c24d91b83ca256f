-- The words of a book are a run that is sound, and carry that book. Assumes nothing.
use Rattle.std.proofs.Common.{◌≡◌, ℕ, zero, suc, ◌+◌, ◌-◌, ◌*◌, ◌<◌, ◌≤◌, Bool, true, false, ltb, List, [], ◌∷◌, ◌++◌, map, length, get_or, sym, refl, ap, ◌∙◌, inl, inr, ⊎_elim, arith, length-append}
use lib.ListN.{length-map}
use Rattle.std.proofs.lemmas.List.{append-nil, ext_get_or, get_or_append_left, get_or-append_right, get_or-map}
use Rattle.std.proofs.lemmas.List.Folds.{list_all-append}
use Rattle.std.proofs.lemmas.Nat.{from_be_bytes-to_be_bytes_4}
use Rattle.std.proofs.lemmas.Bool.{and_from, and_parts, both_ways, cases_lt, eqb-false, lt-ltb, ltb-true, not-true, or_cases}
use Rattle.table.specs.Ordered.{above, ascending, same}
use Rattle.table.proofs.Places.{distinct, rises}
use Rattle.words.specs.declared.member.Member.{Member}
use Rattle.words.specs.declared.rule.Rule.{Rule}
use Rattle.words.specs.declared.rule_kind.RuleKind.{RuleKind}
use Rattle.words.specs.declared.rule_kind.RuleKind.TheVariants.{Subscription, Invitation}
use Rattle.words.specs.Books.{book_sound, has_word, word_of, words_in, words_of}
use Rattle.words.proofs.Listed.{length-words_before, word_listed}
use Rattle.words.specs.Keys.{member_key, rule_key, rule_less}
use Rattle.words.specs.Laws.{Book}
use Rattle.words.specs.Records.{is_member, is_rule, member_in, member_of, member_word, rule_in, rule_kind_number, rule_of, rule_word, valid_member, valid_rule}
use Rattle.words.specs.Words.{number_of, tail_of, words_octets}
use Rattle.words.proofs.Books.{member_no_rule}
use Rattle.words.proofs.Sound.{rule_no_member}
use Rattle.words.proofs.Whole.{book_is_sound}
use Rattle.book.specs.Asked.{same_member, stands_so}
use Rattle.book.specs.Matching.{some}
use Rattle.book.specs.Octets.{book_octets, book_words, carried, members_among, members_in, rules_among, rules_in}
use Rattle.book.specs.Sound.{Sound, each, holds, other_port, owned, ports_apart}
use Rattle.book.proofs.Carried.{carried-append, length-carried}
use Rattle.book.proofs.Fields.{member_first, word_of_member, word_of_rule}
use Rattle.book.proofs.Keeping.{same_is}
use Rattle.book.proofs.Membership.{has_some, stands_some}
use Rattle.book.proofs.Orders.{ltb_order, member_ranges, member_words_order, rule_ranges, rule_words_order}

-- a word has 32 bits
abbrev short : ℕ → Bool
short w = ltb w 4294967296

pub length_octets : (ws : List ℕ) → length (words_octets ws) ≡ 4 * length ws
length_octets [] = refl
length_octets (w ∷ ws) = let h = length_octets ws in omega arith

-- each is an octet
pub octet_small : (ws : List ℕ) (i : ℕ) → get_or (words_octets ws) i 0 < 256
octet_small [] i = omega arith
octet_small (w ∷ ws) zero = omega arith
octet_small (w ∷ ws) (suc zero) = omega arith
octet_small (w ∷ ws) (suc (suc zero)) = omega arith
octet_small (w ∷ ws) (suc (suc (suc zero))) = omega arith
octet_small (w ∷ ws) (suc (suc (suc (suc i)))) = octet_small ws i

pub word_written : (ws : List ℕ) (k : ℕ) → each short ws ≡ true → k < length ws → word_of (words_octets ws) k ≡ get_or ws k 0
word_written [] k s l = absurd (omega arith)
word_written (w ∷ ws) zero s l = from_be_bytes-to_be_bytes_4 w (ltb-true w 4294967296 (and_parts (short w) (each short ws) s).0)
word_written (w ∷ ws) (suc k) s l =
    let e : 4 * suc k ≡ suc (suc (suc (suc (4 * k)))) = omega arith in
    let e1 : suc (suc (suc (suc (4 * k)))) + 1 ≡ suc (suc (suc (suc (4 * k + 1)))) = omega arith in
    let e2 : suc (suc (suc (suc (4 * k)))) + 2 ≡ suc (suc (suc (suc (4 * k + 2)))) = omega arith in
    let e3 : suc (suc (suc (suc (4 * k)))) + 3 ≡ suc (suc (suc (suc (4 * k + 3)))) = omega arith in
    rw (e, e1, e2, e3) (word_written ws k (and_parts (short w) (each short ws) s).1 (omega arith))

pub words_written : (ws : List ℕ) → each short ws ≡ true → words_of (words_octets ws) ≡ ws
words_written ws s =
    let xs = words_octets ws in
    let n : words_in xs ≡ length ws = omega (arith, length_octets ws) in
    let l = length-words_before xs (words_in xs) in
    ext_get_or 0 (words_of xs) ws (omega arith) (λ i h. word_listed xs (words_in xs) i (omega arith) ∙ word_written ws i s (omega arith))

-- what holds of the word of each that is valid holds of each word
each_word : {A : Type 0} (valid : A → Bool) (f : A → ℕ) (q : ℕ → Bool) (xs : List A) → ((x : A) → valid x ≡ true → q (f x) ≡ true) → each valid xs ≡ true → each q (map f xs) ≡ true
each_word valid f q [] h v = refl
each_word valid f q (x ∷ xs) h v = let p = and_parts (valid x) (each valid xs) v in and_from _ _ (h x p.0) (each_word valid f q xs h p.1)

kind_small : (k : RuleKind) → rule_kind_number k ≤ 3
kind_small Subscription = omega arith
kind_small Invitation = omega arith

pub words_short : (ms : List Member) (us : List Rule) → Sound ms us → each short (book_words ms us) ≡ true
words_short ms us s =
    list_all-append short (map member_word ms) (map rule_word us)
    ∙ and_from _ _ (each_word valid_member member_word short ms (λ m v. let r = member_ranges m v in lt-ltb (member_word m) 4294967296 (omega arith)) s.members_valid)
    (each_word valid_rule rule_word short us (λ u v. let r = rule_ranges u v in let k = kind_small u.kind in lt-ltb (rule_word u) 4294967296 (omega arith)) s.rules_valid)

-- what words of valid things carry, read by p and f, is those things
carried_all : {A : Type 0} (valid : A → Bool) (g : A → ℕ) (p : ℕ → Bool) (f : ℕ → A) (xs : List A) → ((x : A) → valid x ≡ true → (p (g x) ≡ true) × (f (g x) ≡ x)) → each valid xs ≡ true → carried p f (map g xs) ≡ xs
carried_all valid g p f [] h v = refl
carried_all valid g p f (x ∷ xs) h v =
    let a = and_parts (valid x) (each valid xs) v in
    let b = h x a.0 in
    rw (b.0, b.1) (ap (λ ys. x ∷ ys) (carried_all valid g p f xs h a.1))

carried_nothing : {A B : Type 0} (valid : A → Bool) (g : A → ℕ) (p : ℕ → Bool) (f : ℕ → B) (xs : List A) → ((x : A) → valid x ≡ true → p (g x) ≡ false) → each valid xs ≡ true → carried p f (map g xs) ≡ []
carried_nothing valid g p f [] h v = refl
carried_nothing valid g p f (x ∷ xs) h v =
    let a = and_parts (valid x) (each valid xs) v in
    rw (h x a.0) (carried_nothing valid g p f xs h a.1)

pub members_back : (ms : List Member) (us : List Rule) → each valid_member ms ≡ true → each valid_rule us ≡ true → members_among (book_words ms us) ≡ ms
members_back ms us a b =
    let m = carried_all valid_member member_word is_member member_in ms word_of_member a in
    let n = carried_nothing valid_rule rule_word is_member member_in us (λ u v. rule_no_member (rule_word u) (word_of_rule u v).0) b in
    carried-append is_member member_in (map member_word ms) (map rule_word us) ∙ rw (m, n) (append-nil ms)

pub rules_back : (ms : List Member) (us : List Rule) → each valid_member ms ≡ true → each valid_rule us ≡ true → rules_among (book_words ms us) ≡ us
rules_back ms us a b =
    let m = carried_nothing valid_member member_word is_rule rule_in ms (λ m v. member_no_rule (member_word m) (word_of_member m v).0) a in
    let n = carried_all valid_rule rule_word is_rule rule_in us word_of_rule b in
    carried-append is_rule rule_in (map member_word ms) (map rule_word us) ∙ rw (m, n)

-- the words of things in order are in order
above_words : {A K : Type 0} (less : K → K → Bool) (key : A → K) (valid : A → Bool) (f : A → ℕ) → ((x y : A) → valid x ≡ true → valid y ≡ true → less (key x) (key y) ≡ true → ltb (f x) (f y) ≡ true)
    → (x : A) (ys : List A) → valid x ≡ true → each valid ys ≡ true → above less key (key x) ys ≡ true → above ltb (λ w. w) (f x) (map f ys) ≡ true
above_words less key valid f h x [] a v r = refl
above_words less key valid f h x (y ∷ ys) a v r =
    let p = and_parts (valid y) (each valid ys) v in
    let q = and_parts (less (key x) (key y)) (above less key (key x) ys) r in
    and_from _ _ (h x y a p.0 q.0) (above_words less key valid f h x ys a p.1 q.1)

ascending_words : {A K : Type 0} (less : K → K → Bool) (key : A → K) (valid : A → Bool) (f : A → ℕ) → ((x y : A) → valid x ≡ true → valid y ≡ true → less (key x) (key y) ≡ true → ltb (f x) (f y) ≡ true)
    → (xs : List A) → each valid xs ≡ true → ascending less key xs ≡ true → ascending ltb (λ w. w) (map f xs) ≡ true
ascending_words less key valid f h [] v r = refl
ascending_words less key valid f h (x ∷ xs) v r =
    let p = and_parts (valid x) (each valid xs) v in
    let q = and_parts (above less key (key x) xs) (ascending less key xs) r in
    and_from _ _ (above_words less key valid f h x xs p.0 p.1 q.0) (ascending_words less key valid f h xs p.1 q.1)

above-each : (w : ℕ) (ws : List ℕ) → each (λ v. ltb w v) ws ≡ true → above ltb (λ v. v) w ws ≡ true
above-each w [] h = refl
above-each w (v ∷ ws) h = let p = and_parts (ltb w v) (each (λ v. ltb w v) ws) h in and_from _ _ p.0 (above-each w ws p.1)

above-append : (w : ℕ) (vs ws : List ℕ) → above ltb (λ v. v) w vs ≡ true → above ltb (λ v. v) w ws ≡ true → above ltb (λ v. v) w (vs ++ ws) ≡ true
above-append w [] ws a b = b
above-append w (v ∷ vs) ws a b = let p = and_parts (ltb w v) (above ltb (λ v. v) w vs) a in and_from _ _ p.0 (above-append w vs ws p.1 b)

ascending-append : (vs ws : List ℕ) → ascending ltb (λ v. v) vs ≡ true → ascending ltb (λ v. v) ws ≡ true → each (λ v. above ltb (λ v. v) v ws) vs ≡ true → ascending ltb (λ v. v) (vs ++ ws) ≡ true
ascending-append [] ws a b h = b
ascending-append (v ∷ vs) ws a b h =
    let p = and_parts (above ltb (λ v. v) v vs) (ascending ltb (λ v. v) vs) a in
    let q = and_parts (above ltb (λ v. v) v ws) _ h in
    and_from _ _ (above-append v vs ws p.0 q.0) (ascending-append vs ws p.1 b q.1)

-- the words of a book strictly ascend
pub words_ascend : (ms : List Member) (us : List Rule) → Sound ms us → ascending ltb (λ w. w) (book_words ms us) ≡ true
words_ascend ms us s =
    let a = ascending_words ltb member_key valid_member member_word (λ m n v w l. sym (member_words_order m n v w (λ (e : m.number ≡ n.number). omega (arith, ltb-true m.number n.number l))) ∙ l) ms s.members_valid s.numbers in
    let b = ascending_words rule_less rule_key valid_rule rule_word (λ u v p q l. sym (rule_words_order u v p q) ∙ l) us s.rules_valid s.rising in
    ascending-append (map member_word ms) (map rule_word us) a b
    (each_word valid_member member_word (λ w. above ltb (λ v. v) w (map rule_word us)) ms (λ m v.
    above-each (member_word m) (map rule_word us) (each_word valid_rule rule_word (λ w. ltb (member_word m) w) us (λ u w.
    lt-ltb (member_word m) (rule_word u) (member_first (rule_word u) (member_word m) (word_of_rule u w).0 (word_of_member m v).0)) s.rules_valid)) s.members_valid)

nobody : Member
nobody = member_of 0 0 0

norule : Rule
norule = rule_of Subscription 0 0 0

each_at : {A : Type 0} (q : A → Bool) (xs : List A) (i : ℕ) (d : A) → each q xs ≡ true → i < length xs → q (get_or xs i d) ≡ true
each_at q [] i d e l = absurd (omega arith)
each_at q (x ∷ xs) zero d e l = (and_parts (q x) (each q xs) e).0
each_at q (x ∷ xs) (suc i) d e l = each_at q xs i d (and_parts (q x) (each q xs) e).1 (omega arith)

ports_at : (ms : List Member) (i j : ℕ) (d : Member) → ports_apart ms ≡ true → i < j → j < length ms → (get_or ms i d).port ≡ (get_or ms j d).port → ⊥
ports_at [] i j d p l h e = absurd (omega arith)
ports_at (m ∷ ms) i zero d p l h e = absurd (omega arith)
ports_at (m ∷ ms) zero (suc j) d p l h e = eqb-false _ _ (not-true _ (each_at (other_port m.port) ms j d (and_parts (each (other_port m.port) ms) (ports_apart ms) p).0 (omega arith))) (sym e)
ports_at (m ∷ ms) (suc i) (suc j) d p l h e = ports_at ms i j d (and_parts (each (other_port m.port) ms) (ports_apart ms) p).1 (omega arith) (omega arith) e

holder_at : (n : ℕ) (ms : List Member) (d : Member) → holds n ms ≡ true → (i : ℕ) × (i < length ms) × ((get_or ms i d).number ≡ n)
holder_at n [] d h = let z : ◌≡◌ {A = ℕ} 0 1 = cc in absurd (omega arith)
holder_at n (m ∷ ms) d h =
    ⊎_elim (λ (q : same ltb n m.number ≡ true). (0, omega arith, sym (same_is n m.number q)))
    (λ (q : holds n ms ≡ true). let r = holder_at n ms d q in (suc r.0, omega (arith, r.1), r.2))
    (or_cases (same ltb n m.number) (holds n ms) h)

abbrev port_in : Member → ℕ
port_in m = m.port

abbrev owner_in : Rule → ℕ
owner_in u = u.number

pub length_words : (ms : List Member) (us : List Rule) → length (book_words ms us) ≡ length ms + length us
length_words ms us = length-append (map member_word ms) (map rule_word us) ∙ rw (length-map ms member_word, length-map us rule_word)

-- four octets a word
pub octets_long : (ms : List Member) (us : List Rule) → length (book_octets ms us) ≡ 4 * (length ms + length us)
octets_long ms us = omega (arith, length_octets (book_words ms us), length_words ms us)

-- the words of the members stand first
pub member_word_at : (ms : List Member) (us : List Rule) (i : ℕ) (d : Member) → i < length ms → get_or (book_words ms us) i 0 ≡ member_word (get_or ms i d)
member_word_at ms us i d l =
    let n = length-map ms member_word in
    get_or_append_left (map member_word ms) (map rule_word us) 0 i (omega arith) ∙ get_or-map member_word ms i d 0 l

pub rule_word_at : (ms : List Member) (us : List Rule) (i : ℕ) (d : Rule) → length ms ≤ i → i < length ms + length us → get_or (book_words ms us) i 0 ≡ rule_word (get_or us (i - length ms) d)
rule_word_at ms us i d l h = get_or-append_right (map member_word ms) (map rule_word us) (length ms) i 0 (length-map ms member_word) l ∙ get_or-map rule_word us (i - length ms) d 0 (omega arith)

-- a book's octets, word by word
module _ (ms : List Member) (us : List Rule) (s : Sound ms us) where
  whole : words_in (book_octets ms us) ≡ length ms + length us
  whole = omega (arith, length_octets (book_words ms us), length_words ms us)

  member_at : (i : ℕ) → i < length ms → word_of (book_octets ms us) i ≡ member_word (get_or ms i nobody)
  member_at i l = word_written (book_words ms us) i (words_short ms us s) (omega (arith, length_words ms us)) ∙ member_word_at ms us i nobody l

  rule_at : (i : ℕ) → length ms ≤ i → i < length ms + length us → word_of (book_octets ms us) i ≡ rule_word (get_or us (i - length ms) norule)
  rule_at i l h = word_written (book_words ms us) i (words_short ms us s) (omega (arith, length_words ms us)) ∙ rule_word_at ms us i norule l h

  pub members_again : members_in (book_octets ms us) ≡ ms
  members_again = ap members_among (words_written (book_words ms us) (words_short ms us s)) ∙ members_back ms us s.members_valid s.rules_valid

  pub rules_again : rules_in (book_octets ms us) ≡ us
  rules_again = ap rules_among (words_written (book_words ms us) (words_short ms us s)) ∙ rules_back ms us s.members_valid s.rules_valid

  -- a word that is a member's stands among the first
  seat_of : (i : ℕ) → i < words_in (book_octets ms us) → is_member (word_of (book_octets ms us) i) ≡ true → i < length ms
  seat_of i h p =
      ⊎_elim (λ (l : i < length ms). l)
      (λ (l : length ms ≤ i).
      let k : i - length ms < length us = omega (arith, whole) in
      let r = (word_of_rule (get_or us (i - length ms) norule) (each_at valid_rule us (i - length ms) norule s.rules_valid k)).0 in
      let q : is_member (word_of (book_octets ms us) i) ≡ false = rw (rule_at i l (omega (arith, whole))) (rule_no_member (rule_word (get_or us (i - length ms) norule)) r) in
      absurd (both_ways _ q p))
      (cases_lt i (length ms))

  seats_apart : (i j : ℕ) → i < j → j < words_in (book_octets ms us) → is_member (word_of (book_octets ms us) i) ≡ true → is_member (word_of (book_octets ms us) j) ≡ true
      → (number_of (word_of (book_octets ms us) i) ≡ number_of (word_of (book_octets ms us) j) → ⊥) × (tail_of (word_of (book_octets ms us) i) ≡ tail_of (word_of (book_octets ms us) j) → ⊥)
  seats_apart i j l h p q =
      let b = seat_of j h q in
      let m = get_or ms i nobody in
      let n = get_or ms j nobody in
      let v = (word_of_member m (each_at valid_member ms i nobody s.members_valid (omega arith))).1 in
      let w = (word_of_member n (each_at valid_member ms j nobody s.members_valid b)).1 in
      rw (member_at i (omega arith), member_at j b) (
        λ e. distinct ltb_order member_key ms i j nobody s.numbers l b (sym (ap member_key v) ∙ (e ∙ ap member_key w)),
        λ e. ports_at ms i j nobody s.ports l b (sym (ap port_in v) ∙ (e ∙ ap port_in w)),
      )

  -- and one that is a rule's behind them
  place_of : (j : ℕ) → is_rule (word_of (book_octets ms us) j) ≡ true → length ms ≤ j
  place_of j p =
      ⊎_elim
      (λ (l : j < length ms).
      let v = (word_of_member (get_or ms j nobody) (each_at valid_member ms j nobody s.members_valid l)).0 in
      let q : is_rule (word_of (book_octets ms us) j) ≡ false = rw (member_at j l) (member_no_rule (member_word (get_or ms j nobody)) v) in
      absurd (both_ways _ q p))
      (λ (l : length ms ≤ j). l)
      (cases_lt j (length ms))

  owner_of : (j : ℕ) → j < words_in (book_octets ms us) → is_rule (word_of (book_octets ms us) j) ≡ true
      → (i : ℕ) × (i < j) × (is_member (word_of (book_octets ms us) i) ≡ true) × (number_of (word_of (book_octets ms us) i) ≡ number_of (word_of (book_octets ms us) j))
  owner_of j h p =
      let l = place_of j p in
      let k : j - length ms < length us = omega (arith, whole) in
      let u = get_or us (j - length ms) norule in
      let w = (word_of_rule u (each_at valid_rule us (j - length ms) norule s.rules_valid k)).1 in
      let o = holder_at u.number ms nobody (each_at (owned ms) us (j - length ms) norule s.owners k) in
      let v = word_of_member (get_or ms o.0 nobody) (each_at valid_member ms o.0 nobody s.members_valid o.1) in
      let a = member_at o.0 o.1 in
      let b = rule_at j l (omega (arith, whole)) in
      (o.0, omega (arith, o.1), ap is_member a ∙ v.0, ap number_of a ∙ (ap member_key v.1 ∙ (o.2 ∙ (sym (ap owner_in w) ∙ sym (ap number_of b)))))

  pub written_book : Book (book_octets ms us)
  written_book = record {
    whole = omega (arith, length_octets (book_words ms us));
    each = λ k h.
        ⊎_elim (λ (l : k < length ms). inl (rw (member_at k l) (word_of_member (get_or ms k nobody) (each_at valid_member ms k nobody s.members_valid l)).0))
        (λ (l : length ms ≤ k). inr (rw (rule_at k l (omega (arith, whole))) (word_of_rule (get_or us (k - length ms) norule) (each_at valid_rule us (k - length ms) norule s.rules_valid (omega (arith, whole)))).0))
        (cases_lt k (length ms));
    ascending = λ i j l h.
        let t = rises ltb_order (λ w. w) (book_words ms us) i j 0 (words_ascend ms us s) l (omega (arith, whole, length_words ms us)) in
        rw (word_written (book_words ms us) i (words_short ms us s) (omega (arith, whole, length_words ms us)), word_written (book_words ms us) j (words_short ms us s) (omega (arith, whole, length_words ms us))) (ltb-true _ _ t);
    seats = seats_apart;
    owned = owner_of;
    members = omega (arith, length-carried is_member member_in (book_octets ms us) (words_in (book_octets ms us)), ap length members_again, s.few_members);
    rules = omega (arith, length-carried is_rule rule_in (book_octets ms us) (words_in (book_octets ms us)), ap length rules_again, s.few_rules);
  }

  pub written_sound : book_sound (book_octets ms us) ≡ true
  written_sound = book_is_sound (book_octets ms us) written_book

  -- a member's word stands in the octets where the member stands in the book
  pub written_has : (m : Member) → valid_member m ≡ true → has_word (book_octets ms us) (member_word m) ≡ stands_so m ms
  written_has m v = has_some (book_octets ms us) m v ∙ (ap (some (λ n. same_member n m)) members_again ∙ sym (stands_some m ms s.numbers))
