-- Octets as hexadecimal text. Assumes nothing.
--     digit d            the character of the digit d, 0 to 15
--     hexed xs           two upper-case digits for each octet
--     digit_of c         the digit that a character is, in either case
--     blank c            a space, a tab or a carriage return
--     step s c           a scan s after one character more
--     unhex cs           the octets that a line spells: pairs of digits, with blanks between the pairs
use Rattle.std.specs.Prelude.{ℕ, ◌+◌, ◌-◌, ◌*◌, ◌/◌, ◌%◌, Bool, cond, ◌||◌, List, [], ◌∷◌, ◌++◌, Some, None, fold, Option, ◌==◌, nat_lt}
use Rattle.std.specs.List.{flat_map}
use Rattle.words.specs.Ranges.{within}

abbrev pub digit : ℕ → ℕ
digit d = cond (nat_lt d 10) (48 + d) (55 + d)

abbrev pub octet_hex : ℕ → List ℕ
octet_hex n = digit (n / 16) ∷ digit (n % 16) ∷ []

abbrev pub hexed : List ℕ → List ℕ
hexed xs = flat_map octet_hex xs

abbrev pub digit_of : ℕ → Option ℕ
digit_of c =
    cond (within 48 57 c) (Some (c - 48)) (cond (within 65 70 c) (Some (c - 55)) (cond (within 97 102 c) (Some (c - 87)) None))

abbrev pub blank : ℕ → Bool
blank c = c == 32 || (c == 9 || c == 13)

-- the octets so far, and the first digit of one that is begun; or no hex
pub data Scan : Type 0 where
  broken : Scan
  scanned : List ℕ → Option ℕ → Scan

abbrev pub take_digit : List ℕ → Option ℕ → ℕ → Scan
take_digit xs None d = scanned xs (Some d)
take_digit xs (Some h) d = scanned (xs ++ (h * 16 + d) ∷ []) None

abbrev pub take_other : List ℕ → Option ℕ → Bool → Scan
take_other xs None b = cond b (scanned xs None) broken
take_other xs (Some h) b = broken

abbrev pub take_char : List ℕ → Option ℕ → Option ℕ → Bool → Scan
take_char xs high (Some d) b = take_digit xs high d
take_char xs high None b = take_other xs high b

abbrev pub step : Scan → ℕ → Scan
step broken c = broken
step (scanned xs high) c = take_char xs high (digit_of c) (blank c)

abbrev pub finish : Scan → Option (List ℕ)
finish broken = None
finish (scanned xs None) = Some xs
finish (scanned xs (Some h)) = None

abbrev pub unhex : List ℕ → Option (List ℕ)
unhex cs = finish (fold step (scanned [] None) cs)
