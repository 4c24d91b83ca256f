-- Scans of a line, and lines of digits. Assumes nothing.
use Rattle.std.proofs.Common.{◌≡◌, ℕ, suc, ◌+◌, ◌*◌, ◌/◌, ◌%◌, ◌<◌, List, [], ◌∷◌, ◌++◌, length, get_or, take, drop, Some, None, fold, sym, refl, ap, ◌∙◌, arith, length-set}
use Rattle.std.proofs.lemmas.List.{append_assoc, append-nil, take-append-drop, take_more, take_more_set, flat_map_more}
use Rattle.std.proofs.lemmas.List.Sums.{fold-append, fold_more}
use Rattle.std.specs.Prelude.{slice_set}
use Rattle.explain.specs.Hex.{Scan, broken, scanned, step, finish, unhex, octet_hex, hexed, digit, digit_of}

broken_stays : (cs : List ℕ) → fold step broken cs ≡ broken
broken_stays [] = refl
broken_stays (c ∷ cs) = broken_stays cs

-- a scan that a character breaks stays broken
pub scan_stops : (cs : List ℕ) (i : ℕ) (s : Scan) → i < length cs → fold step (scanned [] None) (take i cs) ≡ s → step s (get_or cs i 0) ≡ broken → None ≡ unhex cs
scan_stops cs i s l e f =
    let g : fold step (scanned [] None) (take (i + 1) cs) ≡ broken = fold_more step (scanned [] None) cs i 0 l ∙ (ap (λ z. step z (get_or cs i 0)) e ∙ f) in
    let h : fold step (scanned [] None) cs ≡ broken =
    ap (fold step (scanned [] None)) (sym (take-append-drop (i + 1) cs))
    ∙ (fold-append step (scanned [] None) (take (i + 1) cs) (drop (i + 1) cs) ∙ (ap (λ z. fold step z (drop (i + 1) cs)) g ∙ broken_stays (drop (i + 1) cs))) in
    sym (ap finish h)

-- one octet more in digits
pub hexed_more : (xs : List ℕ) (i : ℕ) (t u : List ℕ) → i < length xs → t ≡ hexed (take i xs) → u ≡ t ++ octet_hex (get_or xs i 0) → u ≡ hexed (take (i + 1) xs)
hexed_more xs i t u l e f = f ∙ rw (e, take_more xs i 0 l) (flat_map_more octet_hex [] (take i xs) (get_or xs i 0))

-- two characters more at the start of a buffer
pub two_put : (b : List ℕ) (n x y : ℕ) → n + 1 < length b → take (n + 1 + 1) (slice_set (slice_set b n x) (n + 1) y) ≡ take n b ++ (x ∷ y ∷ [])
two_put b n x y l =
    let long = length-set b n x in
    take_more_set (slice_set b n x) (n + 1) y (omega (arith, long))
    ∙ (ap (λ t. t ++ (y ∷ [])) (take_more_set b n x (omega arith)) ∙ append_assoc (take n b) (x ∷ []) (y ∷ []))

digit_back : (d : ℕ) → d < 16 → digit_of (digit d) ≡ Some d
digit_back d l = grind (arith)

-- the digits of octets, behind octets that were scanned
hexed_scan : (ys xs : List ℕ) → ((i : ℕ) → get_or xs i 0 < 256) → fold step (scanned ys None) (hexed xs) ≡ scanned (ys ++ xs) None
hexed_scan ys [] o = rw (append-nil ys)
hexed_scan ys (x ∷ xs) o =
    let b : x < 256 = o 0 in
    let p = digit_back (x / 16) (omega arith) in
    let q = digit_back (x % 16) (omega arith) in
    let e : x / 16 * 16 + x % 16 ≡ x = omega arith in
    rw (p, q, e) (hexed_scan (ys ++ x ∷ []) xs (λ i. o (suc i)) ∙ ap (λ z. scanned z None) (append_assoc ys (x ∷ []) xs))

-- octets written in hex are spelled by it
pub hexed_back : (t xs : List ℕ) → ((i : ℕ) → get_or xs i 0 < 256) → t ≡ hexed xs → unhex t ≡ Some xs
hexed_back t xs o e = rw e (ap finish (hexed_scan [] xs o))
