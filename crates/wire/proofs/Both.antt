-- Both laws of frames, for messages and Meta-AMS frames together. Assumes nothing.
use Rattle.std.proofs.Common.{◌≡◌, ℕ, ◌+◌, ◌≤◌, true, false, ◌&&◌, eqb, ltb, leb, List, [], ◌∷◌, length, drop, IfOk, Some, None, Ok, Err, Option, Result, sym, refl, ap, ◌∙◌, ⊎_elim, arith}
use Rattle.std.proofs.lemmas.List.{length-drop}
use Rattle.std.proofs.lemmas.Bool.{cases_Bool, eqb-true, leb-true, leb-false, le-ltb, lt-ltb, and_parts, and_from}
use Rattle.std.proofs.lemmas.Bool.Decides.{nat_tests}
use Rattle.words.specs.declared.message_kind.MessageKind.{MessageKind}
use Rattle.words.specs.Words.{word_at, kind_of, word_octets}
use Rattle.words.specs.Heads.{kind_number, message_kind, receiver_word, sender_word, context_word, content_length, read_head}
use Rattle.words.proofs.Trips.{head_trip}
use Rattle.wire.specs.declared.fault.FrameFault.{FrameFault}
use Rattle.wire.specs.declared.fault.FrameFault.TheVariants.{Short, ContentLength}
use Rattle.wire.specs.declared.frame.Frame.{Frame}
use Rattle.wire.specs.Checks.{up}
use Rattle.wire.specs.Headers.{octet}
use Rattle.wire.specs.Frames.{FrameV, message, value, seen}
use Rattle.wire.specs.Reads.{read, read_meta, read_message, message_by, message_in}
use Rattle.wire.specs.Writes.{write, carried}
use Rattle.wire.specs.Laws.{Octets, WrittenRead, ReadCarried}
use Rattle.wire.proofs.Digits.{word_then}
use Rattle.wire.proofs.Inverts.{passed, then_ok, up_ok, ok_is}
use Rattle.wire.proofs.Inverse.{meta_inverse}

kind_found : (n : ℕ) (k : MessageKind) → message_kind n ≡ Some k → n ≡ kind_number k
kind_found n k e = grind (arith, nat_tests)

three_words : (xs : List ℕ) → Octets xs → 12 ≤ length xs → word_octets (word_at xs 0) (word_octets (word_at xs 4) (word_octets (word_at xs 8) (drop 12 xs))) ≡ xs
three_words xs o l = rw (word_then xs 8 o l, word_then xs 4 o (omega arith)) (word_then xs 0 o (omega arith))

words_of : (xs : List ℕ) (a b c : ℕ) → a ≡ word_at xs 0 → b ≡ word_at xs 4 → c ≡ word_at xs 8 → Octets xs → 12 ≤ length xs
    → word_octets a (word_octets b (word_octets c (drop 12 xs))) ≡ xs
words_of xs a b c p q r o l = rw (p, q, r) (three_words xs o l)

in_inverse : (xs : List ℕ) (k : MessageKind) (v : FrameV) → Octets xs → 12 ≤ length xs → kind_of (word_at xs 0) ≡ kind_number k
    → message_in xs k (word_at xs 0) (word_at xs 4) (word_at xs 8) ≡ Ok v → (write v ≡ xs) × (carried v ≡ true)
in_inverse xs k v o l i e =
    let n = content_length (word_at xs 4) in
    let t = then_ok (up (read_head k (word_at xs 0) (word_at xs 4) (word_at xs 8))) _ v e in
    let h = t.0 in
    let f = head_trip.forth k (word_at xs 0) (word_at xs 4) (word_at xs 8) h i (up_ok _ h t.1) in
    let q = passed ((leb n 1000 && eqb (length xs) (12 + n), ContentLength) ∷ []) (Ok (message h (drop 12 xs))) v t.2 in
    let p = and_parts (leb n 1000) (eqb (length xs) (12 + n)) q.0.0 in
    let m : length xs ≡ 12 + n = eqb-true _ _ p.1 in
    let d : length (drop 12 xs) ≡ n = rw length-drop (omega arith) in
    let g : message h (drop 12 xs) ≡ v = ok_is _ v q.1 in
    let s : sender_word h (length (drop 12 xs)) ≡ word_at xs 4 = ap (sender_word h) d ∙ f.3 in
    rw (← g) (
      words_of xs (receiver_word h) (sender_word h (length (drop 12 xs))) (context_word h) f.2 s f.4 o l,
      and_from _ _ f.1 (ap (λ z. leb z 1000) d ∙ p.0),
    )

by_inverse : (xs : List ℕ) (v : FrameV) (m : Option MessageKind) → message_kind (kind_of (word_at xs 0)) ≡ m → Octets xs → 12 ≤ length xs → message_by xs m ≡ Ok v
    → (write v ≡ xs) × (carried v ≡ true)
by_inverse xs v None i o l e = cc
by_inverse xs v (Some k) i o l e = in_inverse xs k v o l (kind_found _ k i) e

message_inverse : (xs : List ℕ) (v : FrameV) → Octets xs → read_message xs ≡ Ok v → (write v ≡ xs) × (carried v ≡ true)
message_inverse xs v o e =
    let q = passed ((leb 12 (length xs), Short) ∷ []) (message_by xs (message_kind (kind_of (word_at xs 0)))) v e in
    by_inverse xs v (message_kind (kind_of (word_at xs 0))) refl o (leb-true _ _ q.0.0) q.1

both : (xs : List ℕ) (v : FrameV) → Octets xs → read xs ≡ Ok v → (write v ≡ xs) × (carried v ≡ true)
unfolding read
both xs v o e =
    ⊎_elim (λ (c : ltb (octet xs 0) 128 ≡ true). meta_inverse xs v o (rw c at e))
    (λ (c : ltb (octet xs 0) 128 ≡ false). message_inverse xs v o (rw c at e))
    (cases_Bool (ltb (octet xs 0) 128))

pub written_read : WrittenRead
written_read xs v o e = (both xs v o e).0

pub read-carried : ReadCarried
read-carried xs v o e = (both xs v o e).1

pub message_reads : (xs : List ℕ) (r : Result Frame FrameFault) → leb 128 (octet xs 0) ≡ true → seen r ≡ read_message xs → seen r ≡ read xs
unfolding read
message_reads xs r h e = rw (le-ltb (octet xs 0) 128 (leb-true 128 (octet xs 0) h)) e

pub meta_reads : (xs : List ℕ) (r : Result Frame FrameFault) → leb 128 (octet xs 0) ≡ false → seen r ≡ read_meta xs → seen r ≡ read xs
unfolding read
meta_reads xs r h e = rw (lt-ltb (octet xs 0) 128 (leb-false 128 (octet xs 0) h)) e

-- what holds of a frame that was read
back_of : (xs : List ℕ) (r : Result Frame FrameFault) (s : Result FrameV FrameFault) → ((v : FrameV) → s ≡ Ok v → (write v ≡ xs) × (carried v ≡ true)) → seen r ≡ s
    → IfOk r (λ f. (write (value f) ≡ xs) × (carried (value f) ≡ true))
back_of xs (Ok f) s h e = h (value f) (sym e)
back_of xs (Err f) s h e = tt

pub message_written : (xs : List ℕ) → Octets xs → (r : Result Frame FrameFault) → seen r ≡ read_message xs → IfOk r (λ f. (write (value f) ≡ xs) × (carried (value f) ≡ true))
message_written xs o r e = back_of xs r (read_message xs) (λ v. message_inverse xs v o) e

pub meta_written : (xs : List ℕ) → Octets xs → (r : Result Frame FrameFault) → seen r ≡ read_meta xs → IfOk r (λ f. (write (value f) ≡ xs) × (carried (value f) ≡ true))
meta_written xs o r e = back_of xs r (read_meta xs) (λ v. meta_inverse xs v o) e
