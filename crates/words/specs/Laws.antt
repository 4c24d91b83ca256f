-- The laws of words and of the book as a run of words. Assumes nothing.
--     RoundTrip v w r   what w writes of a record valid by v is read back by r, and r reads only that
--     WordOrder         the numeric order of words is the order of (kind, number, role, tail)
--     Book xs            what a book is, in octets: the words of at most 15 members and then at most 200 rules,
--                        ascending, no number and no port twice, each rule's number a member's
use Rattle.std.specs.Prelude.{◌≡◌, ℕ, ◌%◌, ◌<◌, ◌≤◌, true, ◌⊎◌, List, length, Some, Ok, Result, ◌≢◌, nat_lt}
use Rattle.words.specs.declared.fault.WordFault.{WordFault}
use Rattle.words.specs.declared.rule_kind.RuleKind.{RuleKind}
use Rattle.words.specs.declared.reason.Reason.{Reason}
use Rattle.words.specs.declared.module_id.ModuleId.{ModuleId}
use Rattle.words.specs.declared.head.MessageHead.{MessageHead}
use Rattle.words.specs.declared.message_kind.MessageKind.{MessageKind}
use Rattle.words.specs.Words.{before, kind_of, number_of, tail_of}
use Rattle.words.specs.Records.{valid_member, member_word, read_member, valid_applicant, applicant_word, read_applicant, valid_rule, rule_word, read_rule, reason_word, read_reason, valid_module, id_of, read_module, is_member, is_rule}
use Rattle.words.specs.Heads.{valid_head, kind_number, receiver_word, sender_word, context_word, read_head, content_length}
use Rattle.words.specs.Books.{word_of, words_in, members_before, rules_before, book_sound}

pub record RoundTrip {A : Type 0} (Valid : A → Type 0) (write : A → ℕ) (read : ℕ → ℕ → Result A WordFault) : Type 0 where
  pub back : (x : A) (at : ℕ) → Valid x → read (write x) at ≡ Ok x
  pub forth : (w at : ℕ) (x : A) → read w at ≡ Ok x → Valid x × (write x ≡ w)

abbrev pub MemberTrip : Type 0
MemberTrip = RoundTrip (λ m. valid_member m ≡ true) member_word read_member

abbrev pub ApplicantTrip : Type 0
ApplicantTrip = RoundTrip (λ a. valid_applicant a ≡ true) applicant_word read_applicant

abbrev pub RuleTrip : Type 0
RuleTrip = (k : RuleKind) → RoundTrip (λ u. (u.kind ≡ k) × (valid_rule u ≡ true)) rule_word (read_rule k)

abbrev pub ReasonTrip : Type 0
ReasonTrip = RoundTrip (λ (y : Reason). Unit {0}) reason_word read_reason

pub record ModuleTrip : Type 0 where
  pub back : (m : ModuleId) → valid_module m ≡ true → read_module (id_of m) ≡ Some m
  pub forth : (f : ℕ) (m : ModuleId) → read_module f ≡ Some m → (valid_module m ≡ true) × (id_of m ≡ f)

-- the length of the content stands in the second word beside the head
pub record HeadTrip : Type 0 where
  pub back : (h : MessageHead) (n : ℕ) → valid_head h ≡ true → n < 65536
      → (read_head h.kind (receiver_word h) (sender_word h n) (context_word h) ≡ Ok h) × (content_length (sender_word h n) ≡ n)
  pub forth : (k : MessageKind) (a b c : ℕ) (h : MessageHead) → kind_of a ≡ kind_number k → read_head k a b c ≡ Ok h
      → (h.kind ≡ k) × (valid_head h ≡ true) × (receiver_word h ≡ a) × (sender_word h (content_length b) ≡ b) × (context_word h ≡ c)

abbrev pub WordOrder : Type 0
WordOrder = (w v : ℕ) → nat_lt w v ≡ before w v

pub record Book (xs : List ℕ) : Type 0 where
  pub whole : length xs % 4 ≡ 0
  pub each : (k : ℕ) → k < words_in xs → (is_member (word_of xs k) ≡ true) ⊎ (is_rule (word_of xs k) ≡ true)
  pub ascending : (i j : ℕ) → i < j → j < words_in xs → word_of xs i < word_of xs j
  pub seats : (i j : ℕ) → i < j → j < words_in xs → is_member (word_of xs i) ≡ true → is_member (word_of xs j) ≡ true
      → (number_of (word_of xs i) ≢ number_of (word_of xs j)) × (tail_of (word_of xs i) ≢ tail_of (word_of xs j))
  pub owned : (j : ℕ) → j < words_in xs → is_rule (word_of xs j) ≡ true
      → (i : ℕ) × (i < j) × (is_member (word_of xs i) ≡ true) × (number_of (word_of xs i) ≡ number_of (word_of xs j))
  pub members : members_before xs (words_in xs) ≤ 15
  pub rules : rules_before xs (words_in xs) ≤ 200

-- a run in which no word is wrong is a book
abbrev pub SoundIsBook : Type 0
SoundIsBook = (xs : List ℕ) → book_sound xs ≡ true → Book xs

-- and in a book no word is wrong
abbrev pub BookIsSound : Type 0
BookIsSound = (xs : List ℕ) → Book xs → book_sound xs ≡ true
