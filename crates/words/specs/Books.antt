-- A book as a run of words in octets, each word checked with those before it. Assumes nothing.
--     word_of xs k           word k of the run, counted from 0
--     words_in xs            how many whole words it has
--     words_before xs k      the first k words
--     words_of xs            all its whole words
--     some_below f n         f holds at some index below n
--     count_below f n        at how many
--     first_wrong f n        the first index below n at which f fails
--     in_seat n p v          v is a word of a member with number n or at port p
--     numbered n v           v is a word of a member with number n
--     stands xs k t          a word that passes t stands before index k
--     fits xs k              word k may follow those before it
--     wrong_word xs          the first word that may not: one that does not fit, or one cut short
--     read_book xs at        the run from octet at of a frame on, or a fault at its first wrong word
use Rattle.std.specs.Prelude.{ℕ, zero, suc, ◌+◌, ◌-◌, ◌*◌, ◌/◌, ◌%◌, Bool, true, false, cond, not, ◌&&◌, ◌||◌, List, [], ◌∷◌, ◌++◌, length, drop, Some, None, Ok, Err, Option, Result, ◌==◌, nat_lt}
use Rattle.words.specs.Words.{word_at, number_of, tail_of}
use Rattle.words.specs.Records.{is_member, is_rule}
use Rattle.words.specs.declared.fault.WordFault.{WordFault}

abbrev pub word_of : List ℕ → ℕ → ℕ
word_of xs k = word_at xs (4 * k)

abbrev pub words_in : List ℕ → ℕ
words_in xs = length xs / 4

abbrev pub words_before : List ℕ → ℕ → List ℕ
words_before xs zero = []
words_before xs (suc k) = words_before xs k ++ (word_of xs k ∷ [])

abbrev pub words_of : List ℕ → List ℕ
words_of xs = words_before xs (words_in xs)

abbrev pub some_below : (ℕ → Bool) → ℕ → Bool
some_below f zero = false
some_below f (suc n) = some_below f n || f n

abbrev pub count_below : (ℕ → Bool) → ℕ → ℕ
count_below f zero = 0
count_below f (suc n) = count_below f n + cond (f n) 1 0

abbrev pub or_else : Option ℕ → Option ℕ → Option ℕ
or_else (Some x) o = Some x
or_else None o = o

abbrev pub first_wrong : (ℕ → Bool) → ℕ → Option ℕ
first_wrong f zero = None
first_wrong f (suc n) = or_else (first_wrong f n) (cond (f n) None (Some n))

abbrev pub in_seat : ℕ → ℕ → ℕ → Bool
in_seat n p v = is_member v && (number_of v == n || tail_of v == p)

abbrev pub numbered : ℕ → ℕ → Bool
numbered n v = is_member v && number_of v == n

abbrev pub stands : List ℕ → ℕ → (ℕ → Bool) → Bool
stands xs k t = some_below (λ j. t (word_of xs j)) k

-- the word before index k, if there is one
abbrev pub last_before : List ℕ → ℕ → Option ℕ
last_before xs zero = None
last_before xs (suc k) = Some (word_of xs k)

abbrev pub members_before : List ℕ → ℕ → ℕ
members_before xs k = count_below (λ j. is_member (word_of xs j)) k

abbrev pub rules_before : List ℕ → ℕ → ℕ
rules_before xs k = count_below (λ j. is_rule (word_of xs j)) k

-- greater as a number than the word before it
abbrev pub ascends : List ℕ → ℕ → Bool
ascends xs k = k == 0 || nat_lt (word_of xs (k - 1)) (word_of xs k)

-- one of 15 members, whose number and port are new, or one of 200 rules, whose number a member has
abbrev pub sits : List ℕ → ℕ → ℕ → Bool
sits xs k w =
    cond (is_member w)
    (nat_lt (members_before xs k) 15 && not (stands xs k (in_seat (number_of w) (tail_of w))))
    (is_rule w && (nat_lt (rules_before xs k) 200 && stands xs k (numbered (number_of w))))

abbrev pub fits : List ℕ → ℕ → Bool
fits xs k = ascends xs k && sits xs k (word_of xs k)

abbrev pub wrong_word : List ℕ → Option ℕ
wrong_word xs =
    or_else (first_wrong (fits xs) (words_in xs)) (cond (length xs % 4 == 0) None (Some (words_in xs)))

abbrev pub is_none : Option ℕ → Bool
is_none None = true
is_none (Some x) = false

abbrev pub book_sound : List ℕ → Bool
book_sound xs = is_none (wrong_word xs)

abbrev pub placed : {A : Type 0} → A → ℕ → Option ℕ → Result A WordFault
placed x at None = Ok x
placed x at (Some k) = Err (record { place = at + 4 * k })

abbrev pub read_book : List ℕ → ℕ → Result (List ℕ) WordFault
read_book xs at = placed (drop at xs) at (wrong_word (drop at xs))

-- whether the word stands in the run
abbrev pub has_word : List ℕ → ℕ → Bool
has_word xs w = stands xs (words_in xs) (λ v. v == w)
