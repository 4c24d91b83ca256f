-- The union of masks, and which ports a mask has. Assumes nothing.
use Rattle.std.proofs.Common.{◌≡◌, ℕ, zero, suc, ◌^◌, ◌<◌, ◌≤◌, max, false, ◌||◌, eqb, ltb, sym, refl, ap, ◌∙◌, ⊎_elim, arith}
use lib.Bits.{bit_or}
use Rattle.std.proofs.lemmas.Nat.Bits.{bit_at-lt, bit_at-pow_other, bit_at-pow_same, bit_at-zero, bit_at_or, same_from_bits}
use Rattle.std.proofs.lemmas.Bool.{cases_eq, cases_lt, cond-false, cond-true, eq-eqb, le-ltb, lt-ltb, ne_eqb}
use Rattle.std.specs.Int.{bit_at}
use Rattle.line.specs.Laws.{in_mask}
use Rattle.line.specs.Offers.{mask_bits, port_bit}

pub or_assoc : (a b c : ℕ) → bit_or (bit_or a b) c ≡ bit_or a (bit_or b c)
or_assoc a b c = same_from_bits _ _ (λ i. simp bit_at_or (omega arith))

either_bit : (x y : ℕ) → x < 2 → y < 2 → eqb (max x y) 1 ≡ eqb x 1 || eqb y 1
either_bit zero y h k = ap (λ n. eqb n 1) (omega arith)
either_bit (suc zero) zero h k = refl
either_bit (suc zero) (suc zero) h k = refl
either_bit (suc zero) (suc (suc y)) h k = absurd (omega arith)
either_bit (suc (suc x)) y h k = absurd (omega arith)

-- a union has the ports of both
pub in_union : (a b q : ℕ) → in_mask (bit_or a b) q ≡ in_mask a q || in_mask b q
in_union a b q = ap (λ m. eqb m 1) (bit_at_or a b q) ∙ either_bit (bit_at a q) (bit_at b q) (bit_at-lt a q) (bit_at-lt b q)

pub in_none : (q : ℕ) → in_mask 0 q ≡ false
in_none q = ap (λ m. eqb m 1) (bit_at-zero q)

-- of a power of two one bit is set
pub in_power : (p q : ℕ) → in_mask (2 ^ p) q ≡ eqb q p
in_power p q =
    ⊎_elim
    (λ (same : q ≡ p). ap (λ i. in_mask (2 ^ p) i) same ∙ ap (λ m. eqb m 1) (bit_at-pow_same p) ∙ sym (eq-eqb q p same))
    (λ (other : q ≡ p → ⊥). ap (λ m. eqb m 1) (bit_at-pow_other p q other) ∙ sym (ne_eqb q p other))
    (cases_eq q p)

-- the mask of a port has this port alone
pub in_bit : (p q : ℕ) → q < mask_bits → in_mask (port_bit p) q ≡ eqb q p
in_bit p q h =
    ⊎_elim
    (λ (low : p < mask_bits).
    ap (λ m. in_mask m q) (cond-true (ltb p mask_bits) (2 ^ p) 0 (lt-ltb p mask_bits low)) ∙ in_power p q)
    (λ (high : mask_bits ≤ p).
    ap (λ m. in_mask m q) (cond-false (ltb p mask_bits) (2 ^ p) 0 (le-ltb p mask_bits high)) ∙ in_none q ∙ sym (ne_eqb q p (λ e. omega arith)))
    (cases_lt p mask_bits)
