-- Words written one after the other to the start of a buffer. Assumes nothing.
use Rattle.std.proofs.Common.{◌≡◌, ℕ, ◌+◌, ◌*◌, ◌<◌, List, [], ◌++◌, length, get_or, take, drop, Option, Some, None, sym, refl, ap, ◌∙◌, arith}
use Rattle.std.specs.Iterator.{Yields}
use Rattle.std.specs.List.{enumerate_from}
use Rattle.std.proofs.lemmas.Iterator.{YieldsList}
use Rattle.std.proofs.lemmas.Iterator.Consumers.{YieldsList-turn, YieldsList-end}
use Rattle.std.proofs.lemmas.List.FromFn.{get_or-enumerate_from, length-enumerate_from}
use Rattle.std.proofs.lemmas.List.{append_assoc, drop_at, drop-drop, flat_map_more, length-append, length-take-le, take_all, take_at, take_more}
use Rattle.words.specs.Words.{word_octets, words_octets}
use Rattle.book.specs.Buffers.{at_start, word_over}
use Rattle.book.proofs.Writing.{length_octets}

-- what is written right behind the start is written with it
start_more : (d b xs ys : List ℕ) (n : ℕ) → length xs ≡ n → b ≡ at_start xs d → take n b ++ (ys ++ drop (n + length ys) b) ≡ at_start (xs ++ ys) d
start_more d b xs ys n l e =
    let t : take n b ≡ xs = ap (take n) e ∙ take_at xs (drop (length xs) d) n l in
    let r : drop (n + length ys) b ≡ drop (n + length ys) d =
    sym (drop-drop (length ys) n b) ∙ (ap (λ z. drop (length ys) (drop n z)) e ∙ (ap (drop (length ys)) (drop_at xs (drop (length xs) d) n l ∙ ap (λ m. drop m d) l) ∙ drop-drop (length ys) n d)) in
    let m : length (xs ++ ys) ≡ n + length ys = length-append xs ys ∙ ap (λ z. z + length ys) l in
    rw (t, r, m) (sym (append_assoc xs ys (drop (n + length ys) d)))

-- the words in their turn
module _ {S : Type 0} {steps : S → Option (ℕ × ℕ) → S → Type 0} {s : S} (ws : List ℕ) (xs : List (ℕ × ℕ)) (t : S) (y : Yields steps s xs t) (r : Option (ℕ × ℕ)) (u : S) (n : steps t r u) where
  pub word_turn : (k w : ℕ) → r ≡ Some (k, w) → YieldsList steps (λ p. (p.0, p.1)) s (enumerate_from 0 ws) → (length xs < length ws) × (k ≡ length xs) × (w ≡ get_or ws (length xs) w)
  word_turn k w is e =
      let p = YieldsList-turn e xs t y r u (k, w) is n in
      let l : length xs < length ws = omega (arith, p.0, length-enumerate_from 0 ws) in
      let g = p.1 ∙ get_or-enumerate_from 0 ws (length xs) (k, w) l in
      let f : k ≡ 0 + length xs = ap (λ (p : ℕ × ℕ). p.0) g in
      (l, omega arith, ap (λ (p : ℕ × ℕ). p.1) g)

  pub words_end : r ≡ None → YieldsList steps (λ p. (p.0, p.1)) s (enumerate_from 0 ws) → length xs ≡ length ws
  words_end is e = (YieldsList-end e xs t y r u is n).1 ∙ length-enumerate_from 0 ws

-- one word more
pub words_more : (d b ws : List ℕ) (k place w : ℕ) → k < length ws → place ≡ 4 * k → w ≡ get_or ws k w → b ≡ at_start (words_octets (take k ws)) d → word_over b place w ≡ at_start (words_octets (take (k + 1) ws)) d
words_more d b ws k place w h p e g =
    let n : length (words_octets (take k ws)) ≡ place = length_octets (take k ws) ∙ (ap (λ z. 4 * z) (length-take-le k ws (omega arith)) ∙ sym p) in
    let t : words_octets (take k ws) ++ word_octets w [] ≡ words_octets (take (k + 1) ws) =
    ap (λ z. words_octets (take k ws) ++ word_octets z []) e ∙ rw (take_more ws k w h) (flat_map_more (λ v. word_octets v []) [] (take k ws) (get_or ws k w)) in
    start_more d b (words_octets (take k ws)) (word_octets w []) place n g ∙ ap (λ z. at_start z d) t

pub words_all : (d b ws : List ℕ) (k : ℕ) → k ≡ length ws → b ≡ at_start (words_octets (take k ws)) d → b ≡ at_start (words_octets ws) d
words_all d b ws k e g = g ∙ ap (λ z. at_start (words_octets z) d) (take_all k ws (omega arith))

-- the octets at the start are those that were written
pub start_taken : (xs b : List ℕ) → take (length xs) (at_start xs b) ≡ xs
start_taken xs b = take_at xs (drop (length xs) b) (length xs) refl
