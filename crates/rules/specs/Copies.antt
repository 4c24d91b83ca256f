-- What became of every copy of a message, read off answers, frames taken and frames put. Assumes nothing.
-- A copy is known by its place among those put at its port.
--     put_there p e       the copy that the call e put at the port p: the mask that it reached has p
--     read_as k p e       the frame that a receive at p with code k took
--     lost_from p e       the message that a lose with code 1 took from p
--     puts p h, handed_over p h, turned_aside p h, lost_ones p h     the same over the run h, in its order
--     put_count p h       at how many calls the mask reached has p
--     waiting_copies s p  the messages that wait at p, oldest first
--     Fate, Copy          a copy's octets, and what became of it: handed over, turned aside, lost, or still waiting
--     Account             the copies put at p in their order, each with its one fate
--     CopiesAddUp       every port has such an account in every run
use Rattle.std.specs.Prelude.{◌≡◌, ℕ, ◌+◌, Bool, true, false, cond, List, [], ◌∷◌, ◌++◌, length, Some, None, filter, Option, ◌==◌}
use Rattle.rules.specs.declared.answer.Answer.{Answer}
use Rattle.rules.specs.declared.answer.Answer.TheVariants.{Refused, Done, Query, Masks, Served, Received, Lost}
use Rattle.rules.specs.Codes.{received_code, lost_code}
use Rattle.rules.specs.Meanings.{meaning, is_message}
use Rattle.rules.specs.Registrar.{one_if}
use Rattle.line.specs.Laws.{in_mask}
use Rattle.rules.specs.Puts.{arrived}
use Rattle.rules.specs.Calls.{State, Took, Event}
use Rattle.rules.specs.Runs.{History, begin, ◌▹◌, Reached}

abbrev pub Octets : Type 0
Octets = List ℕ

-- the mask of the ports reached by a message; receive's code; lose's code; 0 for every other answer
abbrev pub mask_reached : Answer → ℕ
mask_reached (Refused r) = 0
mask_reached Done = 0
mask_reached (Query q) = 0
mask_reached (Masks x y) = x
mask_reached (Served x) = 0
mask_reached (Received x) = 0
mask_reached (Lost x) = 0

abbrev pub receive_code : Answer → ℕ
receive_code (Refused r) = 0
receive_code Done = 0
receive_code (Query q) = 0
receive_code (Masks x y) = 0
receive_code (Served x) = 0
receive_code (Received x) = received_code x
receive_code (Lost x) = 0

abbrev pub lose_code : Answer → ℕ
lose_code (Refused r) = 0
lose_code Done = 0
lose_code (Query q) = 0
lose_code (Masks x y) = 0
lose_code (Served x) = 0
lose_code (Received x) = 0
lose_code (Lost x) = lost_code x

abbrev pub taken_at : ℕ → Option Took → List Octets
taken_at p None = []
taken_at p (Some x) = one_if (p == x.port) x.octets

abbrev pub put_there : ℕ → Event → List Octets
put_there p e = cond (in_mask (mask_reached e.answer) p) (arrived p e.puts) []

abbrev pub read_as : ℕ → ℕ → Event → List Octets
read_as k p e = cond (receive_code e.answer == k) (taken_at p e.took) []

abbrev pub lost_from : ℕ → Event → List Octets
lost_from p e = cond (lose_code e.answer == 1) (taken_at p e.took) []

-- over a run
abbrev pub gathered : (Event → List Octets) → History → List Octets
gathered f begin = []
gathered f (h ▹ e) = gathered f h ++ f e

abbrev pub puts : ℕ → History → List Octets
puts p h = gathered (put_there p) h

abbrev pub handed_over : ℕ → History → List Octets
handed_over p h = gathered (read_as 1 p) h

abbrev pub turned_aside : ℕ → History → List Octets
turned_aside p h = gathered (read_as 2 p) h

abbrev pub lost_ones : ℕ → History → List Octets
lost_ones p h = gathered (lost_from p) h

abbrev pub put_count : ℕ → History → ℕ
put_count p begin = 0
put_count p (h ▹ e) = put_count p h + cond (in_mask (mask_reached e.answer) p) 1 0

abbrev pub messages : List Octets → List Octets
messages os = filter (λ o. is_message (meaning o)) os

abbrev pub waiting_copies : State → ℕ → List Octets
waiting_copies s p = messages (s.line p)

pub data Fate : Type 0 where
  handed : Fate
  turned : Fate
  lost : Fate
  waits : Fate

abbrev pub is_handed : Fate → Bool
is_handed handed = true
is_handed turned = false
is_handed lost = false
is_handed waits = false

abbrev pub is_turned : Fate → Bool
is_turned handed = false
is_turned turned = true
is_turned lost = false
is_turned waits = false

abbrev pub is_lost : Fate → Bool
is_lost handed = false
is_lost turned = false
is_lost lost = true
is_lost waits = false

abbrev pub is_waiting : Fate → Bool
is_waiting handed = false
is_waiting turned = false
is_waiting lost = false
is_waiting waits = true

pub data Copy : Type 0 where
  copy : Octets → Fate → Copy

abbrev pub octets_in : List Copy → List Octets
octets_in [] = []
octets_in (copy o f ∷ cs) = o ∷ octets_in cs

-- the copies of such a fate, in their order
abbrev pub pick : (Fate → Bool) → List Copy → List Octets
pick t [] = []
pick t (copy o f ∷ cs) = cond (t f) (o ∷ pick t cs) (pick t cs)

pub record Account (p : ℕ) (h : History) (s : State) : Type 0 where
  pub copies : List Copy
  -- put with these octets, in this order
  pub all : octets_in copies ≡ puts p h
  -- handed over, and turned aside, with the octets they were put with and in the order they were put
  pub over : pick is_handed copies ≡ handed_over p h
  pub aside : pick is_turned copies ≡ turned_aside p h
  pub gone : length (pick is_lost copies) ≡ length (lost_ones p h)
  pub still : pick is_waiting copies ≡ waiting_copies s p
  -- put = handed over + turned aside + lost + waiting
  pub count : put_count p h ≡ length (handed_over p h) + length (turned_aside p h) + length (lost_ones p h) + length (waiting_copies s p)

abbrev pub CopiesAddUp : Type 0
CopiesAddUp = (h : History) (s : State) → Reached s h → (p : ℕ) → Account p h s
