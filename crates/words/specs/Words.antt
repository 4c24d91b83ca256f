-- A word of 32 bits: kind (4 bits), number (8), role (8), tail (12), from the most significant bit. Assumes nothing.
--     word k n r t         the word of these four
--     kind_of .. tail_of   the four of a word
--     word_at xs i         the word whose first octet stands at i, most significant octet first
--     word_octets w xs     the octets of w, then xs
--     words_octets ws      the octets of the words ws, in their order
--     before w v           the order of (kind, number, role, tail)
use Rattle.std.specs.Prelude.{ℕ, ◌+◌, ◌*◌, ◌/◌, ◌%◌, Bool, ◌&&◌, ◌||◌, List, [], ◌∷◌, ◌==◌, nat_lt, slice_index}
use Rattle.std.specs.List.{flat_map}

abbrev pub word : ℕ → ℕ → ℕ → ℕ → ℕ
word k n r t = k * 268435456 + n * 1048576 + r * 4096 + t

abbrev pub kind_of : ℕ → ℕ
kind_of w = w / 268435456

abbrev pub number_of : ℕ → ℕ
number_of w = w / 1048576 % 256

abbrev pub role_of : ℕ → ℕ
role_of w = w / 4096 % 256

abbrev pub tail_of : ℕ → ℕ
tail_of w = w % 4096

abbrev pub word_at : List ℕ → ℕ → ℕ
word_at xs i = slice_index xs i * 16777216 + slice_index xs (i + 1) * 65536 + slice_index xs (i + 2) * 256 + slice_index xs (i + 3)

abbrev pub word_octets : ℕ → List ℕ → List ℕ
word_octets w xs = (w / 16777216 % 256) ∷ (w / 65536 % 256) ∷ (w / 256 % 256) ∷ (w % 256) ∷ xs

abbrev pub words_octets : List ℕ → List ℕ
words_octets ws = flat_map (λ w. word_octets w []) ws

abbrev pub before : ℕ → ℕ → Bool
before w v =
    nat_lt (kind_of w) (kind_of v)
    || (kind_of w == kind_of v
    && (nat_lt (number_of w) (number_of v)
    || (number_of w == number_of v
    && (nat_lt (role_of w) (role_of v) || (role_of w == role_of v && nat_lt (tail_of w) (tail_of v))))))
