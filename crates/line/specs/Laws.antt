-- The laws of lines, in the subject's words. Assumes nothing.
--     Fair rule w                  what fits where the frames w wait
--     Seen w                       a buffer with room for the longest frame finds one exactly where one waits
--     stands q ps                  q is among the ports ps
--     once ps                      no port stands twice among ps
--     in_mask mask q               the port q is in the mask
--     Served rule w ps f           what it comes to that f is offered to the ports ps
use Rattle.std.specs.Prelude.{◌≡◌, ℕ, ◌/◌, ◌%◌, ◌^◌, ◌<◌, ◌≤◌, Bool, true, false, cond, not, ◌&&◌, ◌||◌, List, [], ◌∷◌, ◌++◌, length, is_some, ◌==◌, nat_lt}
use Rattle.line.specs.Lines.{Rule, Waiting, admits, longest_frame, looked, port_count, without}
use Rattle.line.specs.Offers.{mask_bits, missed_all, offered_all}

pub record Fair (rule : Rule) (w : Waiting) : Type 0 where
  -- an empty port takes every frame
  pub empty : (port n : ℕ) → port < port_count → 0 < n → n ≤ longest_frame → w port ≡ [] → admits rule w port n ≡ true
  -- where a frame fits, a shorter one fits
  pub shorter : (port m n : ℕ) → 0 < m → m ≤ n → admits rule w port n ≡ true → admits rule w port m ≡ true
  -- with a frame gone, from this port or another, what fitted still fits
  pub fewer : (port at i n : ℕ) → admits rule w port n ≡ true → admits rule (without w at i) port n ≡ true

abbrev pub Seen : Waiting → Type 0
Seen w = (port room : ℕ) → longest_frame ≤ room → is_some (looked (w port) room) ≡ nat_lt 0 (length (w port))

abbrev pub stands : ℕ → List ℕ → Bool
stands q [] = false
stands q (p ∷ ps) = q == p || stands q ps

abbrev pub once : List ℕ → Bool
once [] = true
once (p ∷ ps) = not (stands p ps) && once ps

abbrev pub in_mask : ℕ → ℕ → Bool
in_mask mask q = mask / 2 ^ q % 2 == 1

-- where no port stands twice, what fits is judged as the line was before
pub record Served (rule : Rule) (w : Waiting) (ps f : List ℕ) : Type 0 where
  -- a port that is not offered the frame keeps what it has
  pub others : (q : ℕ) → stands q ps ≡ false → offered_all rule w ps f q ≡ w q
  -- the frame waits last at exactly those ports of the list where it fits
  pub queued : once ps ≡ true → (q : ℕ) → offered_all rule w ps f q ≡ cond (stands q ps && admits rule w q (length f)) (w q ++ f ∷ []) (w q)
  -- the mask has exactly those where it does not
  pub missed : once ps ≡ true → (q : ℕ) → q < mask_bits → in_mask (missed_all rule w ps f) q ≡ stands q ps && not (admits rule w q (length f))
