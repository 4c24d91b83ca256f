-- A frame in a buffer. Assumes nothing.
use Rattle.std.proofs.Common.{◌≡◌, ℕ, ◌+◌, ◌-◌, ◌≤◌, List, [], ◌++◌, length, take, drop, Some, ◌∙◌, append-nil, arith}
use borrow.Rule.Slice.PartMut.{put_mid}
use Rattle.std.proofs.lemmas.List.{length-drop, length-take-le, drop_at, drop-drop, drop_all, take_all}
use Rattle.wire.specs.declared.header.Header.{Header}
use Rattle.wire.specs.Headers.{header_octets}
use Rattle.wire.specs.Frames.{FrameV}
use Rattle.wire.specs.Writes.{header_of, data_of, write}

-- the header before the data, which were put from octet 18 on
pub framed : (v : FrameV) (h : Header) (d s x r : List ℕ) (n m : ℕ) → Some h ≡ header_of v → n ≡ length (data_of v) → 18 ≤ length d
    → s ≡ data_of v ++ drop n (take (length d - 18) (drop 18 d)) → x ≡ header_octets h n [] → m ≡ length x → r ≡ x ++ drop m (put_mid 18 (length d - 18) d s)
    → r ≡ write v ++ drop (m + n) d
framed v h d s x r n m e k l g f i j =
    let a : length (drop 18 d) ≤ length d - 18 = rw length-drop (omega arith) in
    let t : take (length d - 18) (drop 18 d) ≡ drop 18 d = take_all (length d - 18) (drop 18 d) a in
    let z : drop (length d - 18) (drop 18 d) ≡ [] = drop_all (length d - 18) (drop 18 d) a in
    let p : drop 18 (put_mid 18 (length d - 18) d s) ≡ s = rw z (drop_at (take 18 d) (s ++ []) 18 (length-take-le 18 d l) ∙ append-nil s) in
    let w : write v ≡ header_octets h n (data_of v) = rw (← e, ← k) in
    let y : s ≡ data_of v ++ drop (18 + n) d = rw (g, t) (rw drop-drop) in
    rw (j, i, f, p, w, y)
