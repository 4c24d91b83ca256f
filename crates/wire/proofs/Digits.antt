-- Octets as digits of base 256. Assumes nothing.
use Rattle.std.proofs.Common.{◌≡◌, ℕ, ◌+◌, ◌*◌, ◌/◌, ◌%◌, ◌<◌, ◌≤◌, List, [], ◌∷◌, length, drop, add-zero, zero-add, arith}
use Rattle.std.proofs.lemmas.Nat.{from_be_bytes-to_be_bytes_4, from_be_bytes-to_be_bytes_8}
use Rattle.std.proofs.lemmas.List.{length-drop, get_or-drop, drop-drop, drop_all}
use Rattle.words.specs.Words.{word_at, word_octets}
use Rattle.wire.specs.Laws.{Octets}

pub word_back : (w : ℕ) → w < 4294967296 → (w / 16777216 % 256) * 16777216 + (w / 65536 % 256) * 65536 + (w / 256 % 256) * 256 + w % 256 ≡ w
word_back w h = from_be_bytes-to_be_bytes_4 w h

pub time_back : (w : ℕ) → w < 1099511627776
    → (w / 4294967296 % 256) * 4294967296 + ((w / 16777216 % 256) * 16777216 + (w / 65536 % 256) * 65536 + (w / 256 % 256) * 256 + w % 256) ≡ w
time_back w h = omega (arith, from_be_bytes-to_be_bytes_8 w (omega arith))

pub half_back : (n : ℕ) → n < 65536 → (n / 256 % 256) * 256 + n % 256 ≡ n
half_back n h = omega arith

-- the digits of a number made of five
pub octets_of : (h a b c d : ℕ) → a < 256 → b < 256 → c < 256 → d < 256 → (xs : List ℕ)
    → word_octets (h * 4294967296 + (a * 16777216 + b * 65536 + c * 256 + d)) xs ≡ a ∷ b ∷ c ∷ d ∷ xs
octets_of h a b c d p q r s xs =
    let w = h * 4294967296 + (a * 16777216 + b * 65536 + c * 256 + d) in
    let e0 : w / 16777216 % 256 ≡ a = omega arith in
    let e1 : w / 65536 % 256 ≡ b = omega arith in
    let e2 : w / 256 % 256 ≡ c = omega arith in
    let e3 : w % 256 ≡ d = omega arith in
    rw (e0, e1, e2, e3)

pub first_of : (h l : ℕ) → h < 256 → l < 4294967296 → (h * 4294967296 + l) / 4294967296 % 256 ≡ h
first_of h l p q = omega arith

pub word_octets_of : (a b c d : ℕ) → a < 256 → b < 256 → c < 256 → d < 256 → (xs : List ℕ)
    → word_octets (a * 16777216 + b * 65536 + c * 256 + d) xs ≡ a ∷ b ∷ c ∷ d ∷ xs
word_octets_of a b c d p q r s xs = rw zero-add at (octets_of 0 a b c d p q r s xs)

pub word_below : (xs : List ℕ) (i : ℕ) → Octets xs → word_at xs i < 4294967296
word_below xs i o = omega (arith, o i, o (i + 1), o (i + 2), o (i + 3))

word_split : (xs : List ℕ) → Octets xs → 4 ≤ length xs → word_octets (word_at xs 0) (drop 4 xs) ≡ xs
word_split [] h l = absurd (omega arith)
word_split (a ∷ []) h l = absurd (omega arith)
word_split (a ∷ b ∷ []) h l = absurd (omega arith)
word_split (a ∷ b ∷ c ∷ []) h l = absurd (omega arith)
word_split (a ∷ b ∷ c ∷ d ∷ xs) h l = word_octets_of a b c d (h 0) (h 1) (h 2) (h 3) xs

drop_octets : (n : ℕ) (xs : List ℕ) → Octets xs → Octets (drop n xs)
drop_octets n xs o i = rw get_or-drop (o (n + i))

-- the word at a place, and what follows it
pub word_then : (xs : List ℕ) (i : ℕ) → Octets xs → i + 4 ≤ length xs → word_octets (word_at xs i) (drop (i + 4) xs) ≡ drop i xs
word_then xs i o l = simp (get_or-drop, drop-drop, add-zero) at (word_split (drop i xs) (drop_octets i xs o) (rw length-drop (omega arith)))

-- the last word
pub word_last : (xs : List ℕ) (i : ℕ) → Octets xs → length xs ≡ i + 4 → word_octets (word_at xs i) [] ≡ drop i xs
word_last xs i o l = rw (drop_all (i + 4) xs (omega arith)) at (word_then xs i o (omega arith))
