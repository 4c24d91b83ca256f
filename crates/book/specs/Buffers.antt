-- A buffer after octets were written to it. Assumes nothing.
--     at_start xs b         xs, then what stood in b behind as many octets
--     count_written xs b    how many octets are written of xs to b: all, or none where b is too short
--     all_written xs b      what b holds then
--     word_over b at w      b with the word w from place at on
use Rattle.std.specs.Prelude.{ℕ, ◌+◌, cond, List, [], ◌++◌, length, take, drop, Some, None, Option, nat_le}
use Rattle.words.specs.Words.{word_octets}

abbrev pub at_start : List ℕ → List ℕ → List ℕ
at_start xs b = xs ++ drop (length xs) b

abbrev pub count_written : List ℕ → List ℕ → Option ℕ
count_written xs b = cond (nat_le (length xs) (length b)) (Some (length xs)) None

abbrev pub all_written : List ℕ → List ℕ → List ℕ
all_written xs b = cond (nat_le (length xs) (length b)) (at_start xs b) b

abbrev pub word_over : List ℕ → ℕ → ℕ → List ℕ
word_over b at w = take at b ++ (word_octets w [] ++ drop (at + 4) b)
