-- The header of a Meta-AMS frame, 18 octets. Assumes nothing.
--     octet xs i             the octet at place i
--     header_in xs k         the fields of the header that begins xs, of type k
--     header_checks xs k     what is to hold of the header's fixed fields and length, in this order
--     read_header xs         the header, or the first fault
--     header_octets h n xs   the octets of the header h with supplementary length n, then xs
use Rattle.std.specs.Prelude.{ℕ, ◌+◌, ◌*◌, ◌/◌, ◌%◌, Bool, ◌&&◌, List, [], ◌∷◌, length, Some, None, Ok, Err, Option, Result, ◌==◌, nat_le, nat_lt, slice_index}
use Rattle.words.specs.Words.{word_at, word_octets}
use Rattle.wire.specs.declared.fault.FrameFault.{FrameFault}
use Rattle.wire.specs.declared.fault.FrameFault.TheVariants.{Short, Version, UnknownKind, Venture, Unit as OtherUnit, Signature, TimeCode, SupplementLength}
use Rattle.wire.specs.declared.meta_type.MetaType.{MetaType}
use Rattle.wire.specs.declared.header.Header.{Header}
use Rattle.wire.specs.Checks.{checked, passing, and_then}
use Rattle.wire.specs.Types.{type_number, type_of, length_right}

abbrev pub octet : List ℕ → ℕ → ℕ
octet xs i = slice_index xs i

abbrev pub supplement : List ℕ → ℕ
supplement xs = octet xs 6 * 256 + octet xs 7

abbrev pub time_of : List ℕ → ℕ
time_of xs = octet xs 13 * 4294967296 + word_at xs 14

abbrev pub header : MetaType → ℕ → ℕ → ℕ → Header
header k r f t = record { kind = k; role = r; reference = f; time = t }

abbrev pub header_in : List ℕ → MetaType → Header
header_in xs k = header k (octet xs 4) (word_at xs 8) (time_of xs)

-- version 0 and checksum flag 0 leave the type alone in the first octet
abbrev pub first_checks : List ℕ → List (Bool × FrameFault)
first_checks xs = (nat_le 18 (length xs), Short) ∷ (nat_lt (octet xs 0) 32, Version) ∷ []

abbrev pub typed : Option MetaType → Result MetaType FrameFault
typed (Some k) = Ok k
typed None = Err UnknownKind

-- venture 1, unit 0, signature length 0, a time code of 4 octets of seconds and 1 of 1/256 s; the supplementary length
abbrev pub header_checks : List ℕ → MetaType → List (Bool × FrameFault)
header_checks xs k =
    ((octet xs 1 == 1), Venture)
    ∷ (octet xs 2 == 0 && (octet xs 3 == 0), OtherUnit)
    ∷ ((octet xs 5 == 0), Signature)
    ∷ ((octet xs 12 == 29), TimeCode)
    ∷ (length_right k (supplement xs) && (length xs == 18 + supplement xs), SupplementLength)
    ∷ []

abbrev pub header_by : List ℕ → MetaType → Result Header FrameFault
header_by xs k = and_then (passing (header_checks xs k)) λ _. Ok (header_in xs k)

abbrev pub read_header : List ℕ → Result Header FrameFault
read_header xs = checked (first_checks xs) (and_then (typed (type_of (octet xs 0))) (header_by xs))

abbrev pub header_octets : Header → ℕ → List ℕ → List ℕ
header_octets h n xs =
    type_number h.kind
    ∷ 1 ∷ 0 ∷ 0 ∷ h.role ∷ 0 ∷ (n / 256 % 256) ∷ (n % 256)
    ∷ word_octets h.reference (29 ∷ (h.time / 4294967296 % 256) ∷ word_octets h.time xs)
