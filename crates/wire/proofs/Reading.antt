-- Steps of the reader. Assumes nothing.
use Rattle.std.proofs.Common.{◌≡◌, ℕ, ◌+◌, ◌*◌, ◌<◌, ◌≤◌, List, [], ◌∷◌, length, take, Some, Ok, ◌∙◌, arith}
use Rattle.std.proofs.lemmas.Bool.{le-leb, lt-ltb}
use Rattle.std.proofs.lemmas.List.{get_or-take}
use Rattle.std.specs.Int.{w32, w64, from_be_bytes}
use Rattle.words.specs.declared.message_kind.MessageKind.{MessageKind}
use Rattle.words.specs.Words.{word_at, kind_of}
use Rattle.words.specs.Heads.{message_kind}
use Rattle.wire.specs.declared.meta_type.MetaType.{MetaType}
use Rattle.wire.specs.Checks.{passing}
use Rattle.wire.specs.Types.{type_of}
use Rattle.wire.specs.Headers.{octet, read_header, header_checks, header, typed, time_of}
use Rattle.wire.specs.Reads.{message_in, read_message}

pub message_some : (xs : List ℕ) (k : MessageKind) (a b c : ℕ) → 12 ≤ length xs → a ≡ word_at xs 0 → b ≡ word_at xs 4 → c ≡ word_at xs 8
    → message_kind (kind_of a) ≡ Some k → message_in xs k a b c ≡ read_message xs
message_some xs k a b c l p q r s =
    let t : message_kind (kind_of (word_at xs 0)) ≡ Some k = rw p at s in
    rw (p, q, r, le-leb 12 (length xs) l, t)

pub header_some : (xs : List ℕ) (k : MetaType) (f t : ℕ) → 18 ≤ length xs → octet xs 0 < 32 → typed (type_of (octet xs 0)) ≡ Ok k → passing (header_checks xs k) ≡ Ok tt
    → f ≡ word_at xs 8 → t ≡ time_of xs → Ok (header k (octet xs 4) f t) ≡ read_header xs
header_some xs k f t l o e c p q = rw (p, q, le-leb 18 (length xs) l, lt-ltb (octet xs 0) 32 o, e, c)

-- a time of five octets, read as a number of eight
five_octets : (a b c d e : ℕ) → from_be_bytes w64 (0 ∷ 0 ∷ 0 ∷ a ∷ b ∷ c ∷ d ∷ e ∷ []) ≡ a * 4294967296 + (b * 16777216 + c * 65536 + d * 256 + e)
five_octets a b c d e = omega arith

-- the same where ys are the first 18 octets
pub header_taken : (xs ys : List ℕ) (k : MetaType) (f t : ℕ) → 18 ≤ length xs → ys ≡ take 18 xs → octet ys 0 < 32 → typed (type_of (octet ys 0)) ≡ Ok k
    → passing (header_checks xs k) ≡ Ok tt → f ≡ from_be_bytes w32 (octet ys 8 ∷ octet ys 9 ∷ octet ys 10 ∷ octet ys 11 ∷ [])
    → t ≡ from_be_bytes w64 (0 ∷ 0 ∷ 0 ∷ octet ys 13 ∷ octet ys 14 ∷ octet ys 15 ∷ octet ys 16 ∷ octet ys 17 ∷ []) → Ok (header k (octet ys 4) f t) ≡ read_header xs
header_taken xs ys k f t l h o e c p q =
    let same : (i : ℕ) → i < 18 → octet ys i ≡ octet xs i = λ (i : ℕ) (b : i < 18). rw h (get_or-take 18 xs i 0 b) in
    let z = same 0 (omega arith) in
    let u : f ≡ word_at xs 8 = p ∙ rw (same 8 (omega arith), same 9 (omega arith), same 10 (omega arith), same 11 (omega arith)) in
    let v : t ≡ time_of xs =
    q ∙ (five_octets _ _ _ _ _ ∙ rw (same 13 (omega arith), same 14 (omega arith), same 15 (omega arith), same 16 (omega arith), same 17 (omega arith))) in
    rw (same 4 (omega arith)) (header_some xs k f t l (rw z at o) (rw z at e) c u v)
