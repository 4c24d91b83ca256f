-- The words of a run as a list: searched, and read one after the other. Assumes nothing.
use Rattle.std.proofs.Common.{◌≡◌, ℕ, zero, suc, ◌+◌, ◌*◌, ◌<◌, ◌≤◌, Bool, Option, List, [], ◌∷◌, ◌++◌, length, take, drop, get_or, refl, ap, sym, ◌∙◌, ⊎_elim, arith, rules, length-append, length-drop}
use denote.Param.Members.{Mut}
use Rattle.std.specs.Fn.{Called}
use Rattle.std.specs.Iterator.{ChecksAny, YieldsFirst}
use Rattle.std.proofs.lemmas.Bool.{cases_eq}
use Rattle.std.proofs.lemmas.Iterator.{YieldsList}
use Rattle.std.proofs.lemmas.Iterator.Search.{any_from_yields_List}
use Rattle.std.proofs.lemmas.Iterator.Consumers.{YieldsList-from_first}
use Rattle.std.proofs.lemmas.List.{drop_more, get_or-drop, get_or_append_left, take-append-le, take_all}
use Rattle.std.proofs.Math.Seq.{get_or-append_seam}
use Rattle.std.proofs.lemmas.List.Folds.{list_any-append}
use Rattle.std.specs.List.{list_any}
use Rattle.std.specs.Int.{from_be_bytes, w32}
use Rattle.words.specs.Runs.{words_left}
use Rattle.words.specs.declared.book_run.words.Words.{Words}
use Rattle.words.specs.Books.{word_of, words_in, words_before, words_of, some_below, stands}

-- octet j behind the first four is octet 4 + j
behind : (xs : List ℕ) (j i : ℕ) → i ≡ 4 + j → get_or xs i 0 ≡ get_or (drop 4 xs) j 0
behind xs j i e = ap (λ (n : ℕ). get_or xs n 0) e ∙ sym (get_or-drop 4 xs j 0)

word_shift : (xs : List ℕ) (k : ℕ) → word_of xs (suc k) ≡ word_of (drop 4 xs) k
word_shift xs k =
    let a = behind xs (4 * k) (4 * suc k) (omega arith) in
    let b = behind xs (4 * k + 1) (4 * suc k + 1) (omega arith) in
    let c = behind xs (4 * k + 2) (4 * suc k + 2) (omega arith) in
    let d = behind xs (4 * k + 3) (4 * suc k + 3) (omega arith) in
    cc

words_shift : (xs : List ℕ) (k : ℕ) → words_before xs (suc k) ≡ word_of xs 0 ∷ words_before (drop 4 xs) k
words_shift xs zero = refl
words_shift xs (suc k) = ap (λ ws. ws ++ (word_of xs (suc k) ∷ [])) (words_shift xs k) ∙ ap (λ w. word_of xs 0 ∷ words_before (drop 4 xs) k ++ (w ∷ [])) (word_shift xs k)

pub words_first : (xs : List ℕ) → 4 ≤ length xs → words_of xs ≡ word_of xs 0 ∷ words_of (drop 4 xs)
words_first xs l =
    let d = length-drop 4 xs in
    let e : words_in xs ≡ suc (words_in (drop 4 xs)) = omega (arith, d) in
    ap (λ (n : ℕ). words_before xs n) e ∙ words_shift xs (words_in (drop 4 xs))

pub length-words_before : (xs : List ℕ) (k : ℕ) → length (words_before xs k) ≡ k
length-words_before xs zero = refl
length-words_before xs (suc k) =
    let e = length-append (words_before xs k) (word_of xs k ∷ []) in
    let h = length-words_before xs k in
    omega (arith, e, h)

pub word_listed : (xs : List ℕ) (n k : ℕ) → k < n → get_or (words_before xs n) k 0 ≡ word_of xs k
word_listed xs zero k l = absurd (omega arith)
word_listed xs (suc n) k l =
    let ws = words_before xs n in
    let e = length-words_before xs n in
    ⊎_elim
    (λ (q : k ≡ n). ap (λ (i : ℕ). get_or (ws ++ (word_of xs n ∷ [])) i 0) (q ∙ sym e) ∙ (get_or-append_seam ws (word_of xs n) [] 0 ∙ ap (λ (i : ℕ). word_of xs i) (sym q)))
    (λ (q : k ≡ n → ⊥). get_or_append_left ws (word_of xs n ∷ []) 0 k (omega (arith, e)) ∙ word_listed xs n k (omega arith))
    (cases_eq k n)

pub take-words_before : (xs : List ℕ) (n k : ℕ) → k ≤ n → take k (words_before xs n) ≡ words_before xs k
take-words_before xs zero zero l = refl
take-words_before xs zero (suc k) l = absurd (omega arith)
take-words_before xs (suc n) k l =
    let ws = words_before xs n in
    let e = length-words_before xs n in
    let f = length-words_before xs (suc n) in
    ⊎_elim
    (λ (q : k ≡ suc n). take_all k (words_before xs (suc n)) (omega (arith, f)) ∙ ap (λ (i : ℕ). words_before xs i) (sym q))
    (λ (q : k ≡ suc n → ⊥). take-append-le k ws (word_of xs n ∷ []) (omega (arith, e)) ∙ take-words_before xs n k (omega arith))
    (cases_eq k (suc n))

pub some_listed : (t : ℕ → Bool) (xs : List ℕ) (k : ℕ) → list_any t (words_before xs k) ≡ some_below (λ j. t (word_of xs j)) k
some_listed t xs zero = refl
some_listed t xs (suc k) =
    list_any-append t (words_before xs k) (word_of xs k ∷ []) ∙ (rw (some_listed t xs k) (search rules))

-- the first word of a run, and the run behind it
pub next_listed : (xs ys bs : List ℕ) (w : ℕ) → bs ≡ take 4 xs → ys ≡ drop 4 xs → length ys + 4 ≡ length xs → w ≡ from_be_bytes w32 bs → words_of xs ≡ w ∷ words_of ys
next_listed xs ys bs w a b l e = words_first xs (omega (arith, l)) ∙ search rules

-- reading on gives the words that are left
pub listed : (xs : List ℕ) {s : Words} → words_left s ≡ words_of xs → YieldsList (YieldsFirst words_left) (λ w. w) s (words_of xs)
listed xs e = YieldsList-from_first (λ w. w) words_left (words_of xs) e

-- what `any` answers of the first k words of a run
pub any_of_first : {S F : Type 0} {steps : S → Option ℕ → S → Type 0} {g : Mut F (ℕ × Unit {0}) Bool} {s : S} (t : ℕ → Bool) (xs : List ℕ) (k : ℕ) (u : S) (f : F) (r : Bool) → ChecksAny steps g s f r u
    → k ≤ words_in xs → YieldsList steps (λ w. w) s (take k (words_of xs)) → ((w : ℕ) (b : Bool) (q : F) → Called g f (w, tt) b q → (q ≡ f) × (b ≡ t w)) → r ≡ stands xs k t
any_of_first t xs k u f r a l y h =
    any_from_yields_List t u f r a y h ∙ (ap (λ ws. list_any t ws) (take-words_before xs (words_in xs) k l) ∙ some_listed t xs k)

-- what is read of a run of which k words are read already
pub next_read : (xs : List ℕ) (k w : ℕ) (ws zs : List ℕ) → ws ≡ drop k (words_of xs) → ws ≡ w ∷ zs → (k < words_in xs) × (w ≡ word_of xs k) × (zs ≡ drop (k + 1) (words_of xs))
next_read xs k w ws zs d e =
    let n = length-words_before xs (words_in xs) in
    let l = length-drop k (words_of xs) in
    let m : length (w ∷ zs) ≡ length (drop k (words_of xs)) = cc in
    let h : k < words_in xs = omega (arith, n, l, m) in
    let g = drop_more (words_of xs) k 0 (omega (arith, n, h)) in
    let r = word_listed xs (words_in xs) k h in
    let both : w ∷ zs ≡ get_or (words_of xs) k 0 ∷ drop (k + 1) (words_of xs) = cc in
    (h, (cc), (cc))

-- nothing is left of it once all are read
pub all_read : (xs : List ℕ) (k : ℕ) (ws : List ℕ) → ws ≡ drop k (words_of xs) → ws ≡ [] → 4 * k ≤ length xs → k ≡ words_in xs
all_read xs k ws d e l =
    let n = length-words_before xs (words_in xs) in
    let j = length-drop k (words_of xs) in
    let m : 0 ≡ length (drop k (words_of xs)) = cc in
    omega (arith, n, j, m)
