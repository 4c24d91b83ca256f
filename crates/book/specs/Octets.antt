-- A book as the words that it is written in, and back. Assumes nothing.
--     carried p f ws         what f reads of those of the words ws that pass p, in their order
--     put_behind n b x xs    xs, and x behind it where b holds and they are fewer than n
--     members_among ws       the members that the words ws carry, in their order
--     rules_among ws         the rules
--     members_in xs          the members in the run of octets xs
--     rules_in xs            the rules in it
--     book_words ms us       the words of the members, then of the rules
--     book_octets ms us      their octets
use Rattle.std.specs.Prelude.{ℕ, Bool, cond, ◌&&◌, List, [], ◌∷◌, ◌++◌, map, length, filter, nat_lt}
use Rattle.words.specs.declared.member.Member.{Member}
use Rattle.words.specs.declared.rule.Rule.{Rule}
use Rattle.words.specs.Books.{words_of}
use Rattle.words.specs.Records.{is_member, is_rule, member_in, member_word, rule_in, rule_word}
use Rattle.words.specs.Words.{words_octets}

abbrev pub carried : {A : Type 0} → (ℕ → Bool) → (ℕ → A) → List ℕ → List A
carried p f ws = map f (filter p ws)

abbrev pub put_behind : {A : Type 0} → ℕ → Bool → A → List A → List A
put_behind n b x xs = cond (b && nat_lt (length xs) n) (xs ++ (x ∷ [])) xs

abbrev pub members_among : List ℕ → List Member
members_among ws = carried is_member member_in ws

abbrev pub rules_among : List ℕ → List Rule
rules_among ws = carried is_rule rule_in ws

abbrev pub members_in : List ℕ → List Member
members_in xs = members_among (words_of xs)

abbrev pub rules_in : List ℕ → List Rule
rules_in xs = rules_among (words_of xs)

abbrev pub book_words : List Member → List Rule → List ℕ
book_words ms us = map member_word ms ++ map rule_word us

abbrev pub book_octets : List Member → List Rule → List ℕ
book_octets ms us = words_octets (book_words ms us)
