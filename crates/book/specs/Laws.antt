-- The laws of the book, in the subject's words. Assumes nothing.
--     In x xs               x stands in xs
--     RecipientsLaw        who receives: exactly the members of the audience with a rule that asks for it, each once
--     Written ms us         what holds of the octets in which a book is written, ms its members and us its rules
--     WordsBack            the words of a book are a sound run of octets, which carries that book
--     Carries xs            what holds of the members and rules in a sound run of octets xs
--     WordsForth           what a sound run of octets carries is a book, and its words are that run
--     Standing m ms         m stands exactly so where it is in ms
--     StandingLaw          in ascending order of numbers, to stand exactly so is to be in the list
--     ChangesLaw           a change that is taken in leaves a book, and a book may be empty
--     OrderLaw             members and rules are in the order of their words
--     Examples              worked examples
--     OctetsExample        a small book in octets
use Rattle.std.specs.Prelude.{◌≡◌, ℕ, ◌+◌, ◌*◌, ◌<◌, true, false, ◌⊎◌, List, [], ◌∷◌, length, ◌≢◌, nat_lt, slice_index}
use Rattle.table.specs.Ordered.{ascending}
use Rattle.words.specs.declared.member.Member.{Member}
use Rattle.words.specs.declared.rule.Rule.{Rule}
use Rattle.words.specs.declared.rule_kind.RuleKind.TheVariants.{Subscription}
use Rattle.words.specs.Books.{book_sound, has_word}
use Rattle.words.specs.Keys.{member_key, rule_key, rule_less}
use Rattle.words.specs.Records.{member_of, member_word, rule_of, rule_word, valid_member, valid_rule}
use Rattle.book.specs.declared.audience.Audience.{Audience}
use Rattle.book.specs.declared.audience.Audience.TheVariants.{Published}
use Rattle.words.specs.declared.module_id.ModuleId.{ModuleId}
use Rattle.book.specs.declared.change.Change.{Change}
use Rattle.book.specs.Asked.{same_member, stands_so}
use Rattle.book.specs.Changes.{members_after, rules_after, taken}
use Rattle.book.specs.Matching.{asks, in_audience, matches, recipients, some}
use Rattle.book.specs.Numbers.{First}
use Rattle.book.specs.Octets.{book_octets, book_words, members_in, rules_in}
use Rattle.book.specs.Sound.{Sound}

abbrev pub In : {A : Type 0} → A → List A → Type 0
In x [] = ⊥
In x (y ∷ ys) = (x ≡ y) ⊎ In x ys

pub record Recipients (ms : List Member) (us : List Rule) (a : Audience) (f : ModuleId) (s : ℕ) : Type 0 where
  pub asked : (m : Member) → In m (recipients ms us a f s) → In m ms × (in_audience a m ≡ true) × ((u : Rule) × In u us × (asks a f s m u ≡ true))
  pub served : (m : Member) (u : Rule) → In m ms → in_audience a m ≡ true → In u us → asks a f s m u ≡ true → In m (recipients ms us a f s)
  pub once : ascending nat_lt member_key ms ≡ true → ascending nat_lt member_key (recipients ms us a f s) ≡ true

abbrev pub RecipientsLaw : Type 0
RecipientsLaw = (ms : List Member) (us : List Rule) (a : Audience) (f : ModuleId) (s : ℕ) → Recipients ms us a f s

pub record Written (ms : List Member) (us : List Rule) : Type 0 where
  pub sound : book_sound (book_octets ms us) ≡ true
  pub members : members_in (book_octets ms us) ≡ ms
  pub rules : rules_in (book_octets ms us) ≡ us
  pub long : length (book_octets ms us) ≡ 4 * (length ms + length us)
  pub small : (i : ℕ) → slice_index (book_octets ms us) i < 256
  pub rising : ascending nat_lt (λ w. w) (book_words ms us) ≡ true
  pub has : (m : Member) → valid_member m ≡ true → has_word (book_octets ms us) (member_word m) ≡ stands_so m ms

abbrev pub WordsBack : Type 0
WordsBack = (ms : List Member) (us : List Rule) → Sound ms us → Written ms us

-- numbers from 256 on are no octets, and are not written again
pub record Carries (xs : List ℕ) : Type 0 where
  pub sound : Sound (members_in xs) (rules_in xs)
  pub octets : ((i : ℕ) → slice_index xs i < 256) → book_octets (members_in xs) (rules_in xs) ≡ xs
  pub has : (m : Member) → valid_member m ≡ true → has_word xs (member_word m) ≡ stands_so m (members_in xs)

abbrev pub WordsForth : Type 0
WordsForth = (xs : List ℕ) → book_sound xs ≡ true → Carries xs

pub record Standing (m : Member) (ms : List Member) : Type 0 where
  pub some : stands_so m ms ≡ some (λ n. same_member n m) ms
  pub within : stands_so m ms ≡ true → In m ms
  pub stands : In m ms → stands_so m ms ≡ true

abbrev pub StandingLaw : Type 0
StandingLaw = (m : Member) (ms : List Member) → ascending nat_lt member_key ms ≡ true → Standing m ms

pub record ChangesLaw : Type 0 where
  pub empty : Sound [] []
  pub keeps : (ms : List Member) (us : List Rule) (c : Change) → Sound ms us → taken ms us c ≡ true → Sound (members_after ms c) (rules_after ms us c)

-- members are ordered by number, so two with one number are not told apart
pub record OrderLaw : Type 0 where
  pub members : (m n : Member) → valid_member m ≡ true → valid_member n ≡ true → (m.number ≢ n.number) → nat_lt m.number n.number ≡ nat_lt (member_word m) (member_word n)
  pub rules : (u v : Rule) → valid_rule u ≡ true → valid_rule v ≡ true → rule_less (rule_key u) (rule_key v) ≡ nat_lt (rule_word u) (rule_word v)

-- number 2 of role 9 sends
abbrev pub sender : ModuleId
sender = record { number = 2; role = 9 }

abbrev pub listener : Member
listener = member_of 1 5 4

-- the last number given was 255 and 1 is held: 2 is next; a rule for role 5 is not for role 9; two rules that match, one copy
abbrev pub Examples : Type 0
Examples =
    First (listener ∷ []) 255 2
    × (matches (rule_of Subscription 1 5 7) 7 9 ≡ false)
    × (recipients (listener ∷ []) (rule_of Subscription 1 0 7 ∷ rule_of Subscription 1 9 0 ∷ []) Published sender 7 ≡ listener ∷ [])

-- the listener and a rule of its own for subject 7, in octets
abbrev pub OctetsExample : Type 0
OctetsExample = book_octets (listener ∷ []) (rule_of Subscription 1 0 7 ∷ []) ≡ 16 ∷ 16 ∷ 80 ∷ 4 ∷ 32 ∷ 16 ∷ 0 ∷ 7 ∷ []
