-- The members and rules in a run of words that is sound are a book, and their words are that run. Assumes nothing.
use Rattle.std.proofs.Common.{◌≡◌, ℕ, zero, suc, ◌+◌, ◌*◌, ◌/◌, ◌%◌, ◌<◌, ◌≤◌, Bool, true, false, ltb, List, [], ◌∷◌, ◌++◌, map, length, get_or, take, sym, refl, ap, ◌∙◌, inl, inr, ⊎_elim, append_assoc, arith}
use Rattle.std.proofs.lemmas.List.{append-nil, flat_map_more, map_push, take_all}
use Rattle.std.proofs.lemmas.Bool.{and_from, and_parts, cases_Bool, ne_eqb, not_from_false, or_left, or_right}
use Rattle.table.specs.Ordered.{above, ascending, same}
use Rattle.words.specs.declared.member.Member.{Member}
use Rattle.words.specs.declared.rule.Rule.{Rule}
use Rattle.words.specs.Books.{book_sound, has_word, word_of, words_before, words_in}
use Rattle.words.specs.Keys.{member_key, rule_key, rule_less}
use Rattle.words.specs.Laws.{Book}
use Rattle.words.specs.Records.{is_member, is_rule, member_in, member_word, rule_in, rule_word, valid_member, valid_rule}
use Rattle.words.specs.Words.{number_of, tail_of, word_octets, words_octets}
use Rattle.words.proofs.Books.{member_no_rule}
use Rattle.words.proofs.Sound.{rule_no_member, sound_is_book}
use Rattle.book.specs.Asked.{stands_so}
use Rattle.book.specs.Laws.{In}
use Rattle.book.specs.Octets.{book_octets, book_words, members_among, members_in, rules_among, rules_in}
use Rattle.book.specs.Sound.{Sound, each, holds, other_port, owned, ports_apart}
use Rattle.book.proofs.Carried.{carried-each, carried_in, carried_no, carried_none, carried_pairs, carried_yes, each_push, length-carried}
use Rattle.book.proofs.Fields.{member_first, member_of_word, numbers_rise, rule_of_word, rules_rise}
use Rattle.book.proofs.Keeping.{same_self}
use Rattle.book.proofs.Membership.{has_some, stands_some}

above_push : {A K : Type 0} (less : K → K → Bool) (key : A → K) (k : K) (xs : List A) (x : A) → above less key k xs ≡ true → less k (key x) ≡ true → above less key k (xs ++ (x ∷ [])) ≡ true
above_push less key k [] x a h = and_from _ _ h refl
above_push less key k (y ∷ xs) x a h = let p = and_parts (less k (key y)) (above less key k xs) a in and_from _ _ p.0 (above_push less key k xs x p.1 h)

-- one more at the end, above all before it
pub ascending_push : {A K : Type 0} (less : K → K → Bool) (key : A → K) (xs : List A) (x : A) → ascending less key xs ≡ true → each (λ y. less (key y) (key x)) xs ≡ true → ascending less key (xs ++ (x ∷ [])) ≡ true
ascending_push less key [] x r h = refl
ascending_push less key (y ∷ xs) x r h =
    let p = and_parts (above less key (key y) xs) (ascending less key xs) r in
    let q = and_parts (less (key y) (key x)) (each (λ z. less (key z) (key x)) xs) h in
    and_from _ _ (above_push less key (key y) xs x p.0 q.0) (ascending_push less key xs x p.1 q.1)

pub ports_push : (ms : List Member) (m : Member) → ports_apart ms ≡ true → each (λ y. other_port y.port m) ms ≡ true → ports_apart (ms ++ (m ∷ [])) ≡ true
ports_push [] m r h = refl
ports_push (y ∷ ms) m r h =
    let p = and_parts (each (other_port y.port) ms) (ports_apart ms) r in
    let q = and_parts (other_port y.port m) (each (λ z. other_port z.port m) ms) h in
    and_from _ _ (each_push (other_port y.port) ms m p.0 q.0) (ports_push ms m p.1 q.1)

pub in_holds : (m : Member) (n : ℕ) (ms : List Member) → In m ms → m.number ≡ n → holds n ms ≡ true
in_holds m n [] i e = absurd i
in_holds m n (y ∷ ms) (inl q) e = or_left _ _ (same_self n y.number (sym e ∙ ap member_key q))
in_holds m n (y ∷ ms) (inr i) e = or_right (same ltb n y.number) _ (in_holds m n ms i e)

pub book_read : (xs : List ℕ) → Book xs → Sound (members_in xs) (rules_in xs)
book_read xs b = record {
  numbers = carried_pairs is_member member_in (λ ms. ascending ltb member_key ms ≡ true) (λ x y. ltb x.number y.number) refl (λ ms m r h. ascending_push ltb member_key ms m r h) xs (words_in xs)
      (λ i j l h p q. numbers_rise (word_of xs i) (word_of xs j) p q (b.ascending i j l h) (b.seats i j l h p q).0);
  rising = carried_pairs is_rule rule_in (λ us. ascending rule_less rule_key us ≡ true) (λ x y. rule_less (rule_key x) (rule_key y)) refl (λ us u r h. ascending_push rule_less rule_key us u r h) xs (words_in xs)
      (λ i j l h p q. rules_rise (word_of xs i) (word_of xs j) p q (b.ascending i j l h));
  members_valid = carried-each is_member member_in valid_member xs (words_in xs) (λ j l p. (member_of_word (word_of xs j) p).1);
  rules_valid = carried-each is_rule rule_in valid_rule xs (words_in xs) (λ j l p. (rule_of_word (word_of xs j) p).1);
  ports = carried_pairs is_member member_in (λ ms. ports_apart ms ≡ true) (λ x y. other_port x.port y) refl ports_push xs (words_in xs)
      (λ i j l h p q. not_from_false _ (ne_eqb _ _ (λ (e : tail_of (word_of xs j) ≡ tail_of (word_of xs i)). (b.seats i j l h p q).1 (sym e))));
  owners = carried-each is_rule rule_in (owned (members_in xs)) xs (words_in xs) (λ j l p.
      let o = b.owned j l p in
      in_holds (member_in (word_of xs o.0)) (number_of (word_of xs j)) (members_in xs) (carried_in is_member member_in xs (words_in xs) o.0 (omega (arith, o.1)) o.2) o.3);
  few_members = omega (arith, length-carried is_member member_in xs (words_in xs), b.members);
  few_rules = omega (arith, length-carried is_rule rule_in xs (words_in xs), b.rules);
}

-- what stands in a sound run is a book
pub read_sound : (xs : List ℕ) → book_sound xs ≡ true → Sound (members_in xs) (rules_in xs)
read_sound xs h = book_read xs (sound_is_book xs h)

-- and a member's word stands in it where the member does
pub has_so : (xs : List ℕ) (m : Member) → book_sound xs ≡ true → valid_member m ≡ true → has_word xs (member_word m) ≡ stands_so m (members_in xs)
has_so xs m h v = has_some xs m v ∙ sym (stands_some m (members_in xs) (read_sound xs h).numbers)

put_member : (ms : List Member) (us : List Rule) (ws : List ℕ) (m : Member) (w : ℕ) → us ≡ [] → book_words ms us ≡ ws → member_word m ≡ w → book_words (ms ++ (m ∷ [])) us ≡ ws ++ (w ∷ [])
put_member ms us ws m w n h e =
    let k : map member_word ms ≡ ws = sym (append-nil (map member_word ms)) ∙ (rw n at h) in
    rw (n, map_push member_word ms m, append-nil, k, e)

put_rule : (ms : List Member) (us : List Rule) (ws : List ℕ) (u : Rule) (w : ℕ) → book_words ms us ≡ ws → rule_word u ≡ w → book_words ms (us ++ (u ∷ [])) ≡ ws ++ (w ∷ [])
put_rule ms us ws u w h e = rw (map_push rule_word us u, ← append_assoc (map member_word ms) (map rule_word us) (rule_word u ∷ []), h, e)

-- the words of a book in order: members, then rules
pub words_split : (xs : List ℕ) → Book xs → (k : ℕ) → k ≤ words_in xs → book_words (members_among (words_before xs k)) (rules_among (words_before xs k)) ≡ words_before xs k
words_split xs b zero l = refl
words_split xs b (suc k) l =
    let w = word_of xs k in
    let ws = words_before xs k in
    let r = words_split xs b k (omega arith) in
    ⊎_elim
    (λ (p : is_member w ≡ true).
    let none : rules_among ws ≡ [] =
    carried_none is_rule rule_in xs k (λ j h.
    ⊎_elim (λ (q : is_rule (word_of xs j) ≡ true). absurd (omega (arith, member_first (word_of xs j) w q p, b.ascending j k h (omega arith))))
    (λ (q : is_rule (word_of xs j) ≡ false). q)
    (cases_Bool (is_rule (word_of xs j)))) in
    rw (carried_yes is_member member_in ws w p, carried_no is_rule rule_in ws w (member_no_rule w p)) (put_member (members_among ws) (rules_among ws) ws (member_in w) w none r (member_of_word w p).2))
    (λ (p : is_rule w ≡ true).
    rw (carried_no is_member member_in ws w (rule_no_member w p), carried_yes is_rule rule_in ws w p) (put_rule (members_among ws) (rules_among ws) ws (rule_in w) w r (rule_of_word w p).2))
    (b.each k (omega arith))

take_four : (xs : List ℕ) (i : ℕ) → i + 3 < length xs → take (i + 4) xs ≡ take i xs ++ (get_or xs i 0 ∷ get_or xs (i + 1) 0 ∷ get_or xs (i + 2) 0 ∷ get_or xs (i + 3) 0 ∷ [])
take_four [] i h = absurd (omega arith)
take_four (a ∷ []) zero h = absurd (omega arith)
take_four (a ∷ b ∷ []) zero h = absurd (omega arith)
take_four (a ∷ b ∷ c ∷ []) zero h = absurd (omega arith)
take_four (a ∷ b ∷ c ∷ d ∷ xs) zero h = refl
take_four (x ∷ xs) (suc i) h =
    let e1 : suc i + 1 ≡ suc (i + 1) = omega arith in
    let e2 : suc i + 2 ≡ suc (i + 2) = omega arith in
    let e3 : suc i + 3 ≡ suc (i + 3) = omega arith in
    let e4 : suc i + 4 ≡ suc (i + 4) = omega arith in
    rw (e1, e2, e3, e4) (ap (λ ys. x ∷ ys) (take_four xs i (omega arith)))

four : (a b c d w : ℕ) → a < 256 → b < 256 → c < 256 → d < 256 → w ≡ a * 16777216 + b * 65536 + c * 256 + d → word_octets w [] ≡ a ∷ b ∷ c ∷ d ∷ []
four a b c d w p q r s e =
    let i : w / 16777216 % 256 ≡ a = omega arith in
    let j : w / 65536 % 256 ≡ b = omega arith in
    let k : w / 256 % 256 ≡ c = omega arith in
    let l : w % 256 ≡ d = omega arith in
    rw (i, j, k, l)

-- the octets of the words of a run are the run's
pub octets_of_words : (xs : List ℕ) → ((i : ℕ) → get_or xs i 0 < 256) → (k : ℕ) → 4 * k ≤ length xs → words_octets (words_before xs k) ≡ take (4 * k) xs
octets_of_words xs o zero l = refl
octets_of_words xs o (suc k) l =
    let e : 4 * suc k ≡ 4 * k + 4 = omega arith in
    let r = octets_of_words xs o k (omega arith) in
    let f = four (get_or xs (4 * k) 0) (get_or xs (4 * k + 1) 0) (get_or xs (4 * k + 2) 0) (get_or xs (4 * k + 3) 0) (word_of xs k) (o _) (o _) (o _) (o _) refl in
    sym (flat_map_more (λ w. word_octets w []) [] (words_before xs k) (word_of xs k)) ∙ (ap (λ ys. ys ++ word_octets (word_of xs k) []) r ∙ (ap (λ ys. take (4 * k) xs ++ ys) f ∙ rw e (sym (take_four xs (4 * k) (omega arith)))))

pub octets_back : (xs : List ℕ) → ((i : ℕ) → get_or xs i 0 < 256) → book_sound xs ≡ true → book_octets (members_in xs) (rules_in xs) ≡ xs
octets_back xs o h =
    let b = sound_is_book xs h in
    ap words_octets (words_split xs b (words_in xs) (omega arith)) ∙ (octets_of_words xs o (words_in xs) (omega arith) ∙ take_all (4 * words_in xs) xs (omega (arith, b.whole)))
