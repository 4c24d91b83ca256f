-- Query numbers: those of the welcomes that wait at a port, then those of its registrations that wait at the registrar, then the end's next one, ascend. Assumes nothing.
use Rattle.std.proofs.Common.{◌≡◌, ℕ, suc, ◌<◌, cond, eqb, List, [], ◌∷◌, ◌++◌, sym, refl, ap, ◌∙◌, subst, append_assoc, arith}
use Rattle.rules.specs.Meanings.{Meaning, rejects, dead, changes, applies, welcomes, reports, carries, garbled}

abbrev pub Above : ℕ → List ℕ → Type 0
Above x [] = Unit {0}
Above x (y ∷ ys) = (x < y) × Above x ys

abbrev pub Asc : List ℕ → Type 0
Asc [] = Unit {0}
Asc (x ∷ xs) = Above x xs × Asc xs

above-drop : (x : ℕ) (a m b : List ℕ) → Above x (a ++ (m ++ b)) → Above x (a ++ b)
above-drop x [] [] b h = h
above-drop x [] (y ∷ m) b h = above-drop x [] m b h.1
above-drop x (y ∷ a) m b h = (h.0, above-drop x a m b h.1)

-- with a part taken out it ascends still
pub asc_drop : (a m b : List ℕ) → Asc (a ++ (m ++ b)) → Asc (a ++ b)
asc_drop [] [] b h = h
asc_drop [] (y ∷ m) b h = asc_drop [] m b h.1
asc_drop (x ∷ a) m b h = (above-drop x a m b h.0, asc_drop a m b h.1)

above_next : (x n : ℕ) (a : List ℕ) → Above x (a ++ (n ∷ [])) → Above x (a ++ (n ∷ (suc n ∷ [])))
above_next x n [] h = (h.0, (omega (arith, h.0), tt))
above_next x n (y ∷ a) h = (h.0, above_next x n a h.1)

pub asc_next : (n : ℕ) (a : List ℕ) → Asc (a ++ (n ∷ [])) → Asc (a ++ (n ∷ (suc n ∷ [])))
asc_next n [] h = ((omega arith, tt), (tt, tt))
asc_next n (x ∷ a) h = (above_next x n a h.0, asc_next n a h.1)

-- the first is below each later one
pub above_at : (x y : ℕ) (a b : List ℕ) → Above x (a ++ (y ∷ b)) → x < y
above_at x y [] b h = h.0
above_at x y (z ∷ a) b h = above_at x y a b h.1

-- between a number and the next there is none
pub squeeze : (q : ℕ) (a b : List ℕ) → Asc (q ∷ (a ++ (b ++ (suc q ∷ [])))) → b ≡ []
squeeze q a [] h = refl
squeeze q a (y ∷ b) h =
    let low : q < y = above_at q y a (b ++ (suc q ∷ [])) h.0 in
    let high : y < suc q = above_at y (suc q) b [] (asc_drop [] a (y ∷ (b ++ (suc q ∷ []))) h.1).0 in
    let f : ⊥ = omega arith in absurd f

abbrev pub gather : (Meaning → List ℕ) → List Meaning → List ℕ
gather g [] = []
gather g (f ∷ fs) = g f ++ gather g fs

pub gather-++ : (g : Meaning → List ℕ) (a b : List Meaning) → gather g (a ++ b) ≡ gather g a ++ gather g b
gather-++ g [] b = refl
gather-++ g (f ∷ a) b = ap (λ m. g f ++ m) (gather-++ g a b) ∙ sym (append_assoc (g f) (gather g a) (gather g b))

-- the query number of a welcome
abbrev pub in_of : Meaning → List ℕ
in_of (rejects f y) = []
in_of (dead m) = []
in_of (changes c) = []
in_of (applies q a) = []
in_of (welcomes q w b) = q ∷ []
in_of (reports b) = []
in_of (carries h o) = []
in_of (garbled e) = []

-- the query number of a registration of p
abbrev pub reg_of : ℕ → Meaning → List ℕ
reg_of p (rejects f y) = []
reg_of p (dead m) = []
reg_of p (changes c) = []
reg_of p (applies q a) = cond (eqb p a.port) (q ∷ []) []
reg_of p (welcomes q w b) = []
reg_of p (reports b) = []
reg_of p (carries h o) = []
reg_of p (garbled e) = []

abbrev pub ins : List Meaning → List ℕ
ins w = gather in_of w

abbrev pub regs : ℕ → List Meaning → List ℕ
regs p i = gather (reg_of p) i

abbrev pub Chain : List ℕ → List ℕ → ℕ → Type 0
Chain a b n = Asc (a ++ (b ++ (n ∷ [])))

-- of three parts the middle one goes
pub chain_less_in : (a m c b : List ℕ) (n : ℕ) → Chain (a ++ (m ++ c)) b n → Chain (a ++ c) b n
chain_less_in a m c b n h =
    let z : List ℕ = b ++ (n ∷ []) in
    subst Asc (sym (append_assoc a c z)) (asc_drop a m (c ++ z) (subst Asc (append_assoc a (m ++ c) z ∙ ap (λ k. a ++ k) (append_assoc m c z)) h))

pub chain_less_reg : (a b m c : List ℕ) (n : ℕ) → Chain a (b ++ (m ++ c)) n → Chain a (b ++ c) n
chain_less_reg a b m c n h =
    let z : List ℕ = n ∷ [] in
    let e : a ++ ((b ++ (m ++ c)) ++ z) ≡ (a ++ b) ++ (m ++ (c ++ z)) = ap (λ k. a ++ k) (append_assoc b (m ++ c) z ∙ ap (λ k. b ++ k) (append_assoc m c z)) ∙ sym (append_assoc a b (m ++ (c ++ z))) in
    let d : a ++ ((b ++ c) ++ z) ≡ (a ++ b) ++ (c ++ z) = ap (λ k. a ++ k) (append_assoc b c z) ∙ sym (append_assoc a b (c ++ z)) in
    subst Asc (sym d) (asc_drop (a ++ b) m (c ++ z) (subst Asc e h))

-- the end asks once more
pub chain_register : (a b : List ℕ) (n : ℕ) → Chain a b n → Chain a (b ++ (n ∷ [])) (suc n)
chain_register a b n h =
    subst Asc (append_assoc a b (n ∷ (suc n ∷ [])) ∙ ap (λ k. a ++ k) (sym (append_assoc b (n ∷ []) (suc n ∷ [])))) (asc_next n (a ++ b) (subst Asc (sym (append_assoc a b (n ∷ []))) h))

-- the oldest registration is answered
pub chain_move : (a b : List ℕ) (q n : ℕ) → Chain a (q ∷ b) n → Chain (a ++ (q ∷ [])) b n
chain_move a b q n h = subst Asc (sym (append_assoc a (q ∷ []) (b ++ (n ∷ [])))) h

pub chain_squeeze : (q : ℕ) (a b : List ℕ) (n : ℕ) → suc q ≡ n → Chain (q ∷ a) b n → b ≡ []
chain_squeeze q a b n e h = squeeze q a b (subst (λ k. Chain (q ∷ a) b k) (sym e) h)
