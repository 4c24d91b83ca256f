-- What a line means: at each port the frames that wait, oldest first, and the rule by which a new length fits beside
-- the lengths that wait there. Assumes nothing.
--     port_count                how many ports a line has
--     longest_frame             how many octets a frame has at most
--     Waiting                   the frames that wait at each port; each frame its octets
--     Rule                      whether a new length fits beside those that wait
--     in_range p n              p is a port of a line, and n the length of a frame
--     admits rule w p n         a frame of n octets fits at the port p
--     at_port w p fs            w, with the frames fs at the port p
--     added w p f               w, with the frame f last at the port p
--     without w p i             w, with the frame at place i, from 0, gone from the port p; w where there is none
--     looked fs room            the length of the oldest frame, if it goes into so many octets
--     copied fs b               the buffer b after a look: the oldest frame, then the rest as it was
--     first_of fs k             the first octet of the k-th frame, 1 the oldest
--     after_lose w p k          w, with the k-th frame gone from the port p; w where there is none
--     after_take w p room       w, with the oldest frame gone from the port p, if it goes into so many octets
--     Sized fs                  each frame has the length of a frame
--     Lawful rule               what every fitting rule keeps
use Rattle.std.specs.Prelude.{◌≡◌, ℕ, ◌-◌, ◌<◌, ◌≤◌, Bool, true, cond, ◌&&◌, List, [], ◌∷◌, ◌++◌, map, length, drop, is_some, Some, None, Option, ◌==◌, nat_le, nat_lt, slice_index, slice_index_or}
use Rattle.std.specs.List.{remove}

abbrev pub port_count : ℕ
port_count = 16

abbrev pub longest_frame : ℕ
longest_frame = 1012

abbrev pub Waiting : Type 0
Waiting = ℕ → List (List ℕ)

abbrev pub Rule : Type 0
Rule = List ℕ → ℕ → Bool

abbrev pub in_range : ℕ → ℕ → Bool
in_range port n = nat_lt port port_count && (nat_lt 0 n && nat_le n longest_frame)

abbrev pub admits : Rule → Waiting → ℕ → ℕ → Bool
admits rule w port n = in_range port n && rule (map length (w port)) n

abbrev pub at_port : Waiting → ℕ → List (List ℕ) → Waiting
at_port w port fs q = cond (q == port) fs (w q)

abbrev pub added : Waiting → ℕ → List ℕ → Waiting
added w port f = at_port w port (w port ++ f ∷ [])

abbrev pub without : Waiting → ℕ → ℕ → Waiting
without w port i = at_port w port (remove (w port) i)

abbrev pub looked : List (List ℕ) → ℕ → Option ℕ
looked [] room = None
looked (f ∷ fs) room = cond (nat_le (length f) room) (Some (length f)) None

abbrev pub copied : List (List ℕ) → List ℕ → List ℕ
copied [] buffer = buffer
copied (f ∷ fs) buffer = cond (nat_le (length f) (length buffer)) (f ++ drop (length f) buffer) buffer

abbrev pub first_of : List (List ℕ) → ℕ → Option ℕ
first_of fs k = cond (nat_lt 0 k && nat_le k (length fs)) (Some (slice_index (slice_index_or fs (k - 1) []) 0)) None

abbrev pub after_lose : Waiting → ℕ → ℕ → Waiting
after_lose w port k = cond (nat_lt 0 k) (without w port (k - 1)) w

abbrev pub after_take : Waiting → ℕ → ℕ → Waiting
after_take w port room = cond (is_some (looked (w port) room)) (without w port 0) w

abbrev pub Sized : List (List ℕ) → Type 0
Sized [] = Unit {0}
Sized (f ∷ fs) = ((0 < length f) × (length f ≤ longest_frame)) × Sized fs

-- at the lengths of frames
pub record Lawful (rule : Rule) : Type 0 where
  -- an empty port fits every length
  pub empties : (n : ℕ) → 0 < n → n ≤ longest_frame → rule [] n ≡ true
  -- a length below a fitting one fits
  pub shorter : (ns : List ℕ) (m n : ℕ) → 0 < m → m ≤ n → n ≤ longest_frame → rule ns n ≡ true → rule ns m ≡ true
  -- with any waiting frame taken out, what fitted still fits
  pub fewer : (ns : List ℕ) (i n : ℕ) → 0 < n → n ≤ longest_frame → rule ns n ≡ true → rule (remove ns i) n ≡ true
