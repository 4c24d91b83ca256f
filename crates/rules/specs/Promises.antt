-- What holds in every run, read off the calls, their answers, the frames taken and the frames put. Assumes nothing.
--     by_registrar c      the call c is the registrar's: serve or report
--     makers p h          who put what waits at the port p, oldest first: true, a registrar's call
--     left_out p e        a frame for p did not fit: the mask that serve answered has p
--     full_put p e        a full report was put at p
--     lost_there p m e    lose took a registrar's frame from p, m telling who put what waited there
--     clean p h           no registrar's frame to p was lost or left out since the last full report put there
--     official m os       those of the frames os that a registrar's call put
--     InStep             the end at p is in step with the registrar
--     caught_up p h s     the end at p after reading those that wait for it
--     ViewsAgree         its view, once it has read the registrar's frames that wait, is the book
use Rattle.std.specs.Prelude.{◌≡◌, ℕ, Bool, true, false, cond, ◌&&◌, ◌||◌, List, [], ◌∷◌, ◌++◌, map, Some, None, Option, ◌==◌, slice_index_or}
use Rattle.std.specs.List.{remove}
use Rattle.words.specs.declared.member.Member.{Member}
use Rattle.book.specs.Matching.{some}
use Rattle.rules.specs.declared.answer.Answer.{Answer}
use Rattle.rules.specs.declared.answer.Answer.TheVariants.{Refused, Done, Query, Masks, Served, Received, Lost}
use Rattle.rules.specs.declared.standing.Standing.TheVariants.{In}
use Rattle.rules.specs.Codes.{served_missed}
use Rattle.rules.specs.Listings.{Listing, has}
use Rattle.rules.specs.Meanings.{meaning, is_full}
use Rattle.rules.specs.Ends.{Place, place, reading}
use Rattle.line.specs.Laws.{in_mask}
use Rattle.rules.specs.Puts.{arrived}
use Rattle.rules.specs.Calls.{State, Call, register, unregister, request, tell, receive, serve, report, lose, Took, Event}
use Rattle.rules.specs.Runs.{History, begin, ◌▹◌, Reached}

abbrev pub by_registrar : Call → Bool
by_registrar (register p r t b) = false
by_registrar (unregister p t b) = false
by_registrar (request k p r x t b) = false
by_registrar (tell a p x pr cx body b) = false
by_registrar (receive p b) = false
by_registrar (serve t a b) = true
by_registrar (report p t b) = true
by_registrar (lose p k) = false

abbrev pub by_lose : Call → Bool
by_lose (register p r t b) = false
by_lose (unregister p t b) = false
by_lose (request k p r x t b) = false
by_lose (tell a p x pr cx body b) = false
by_lose (receive p b) = false
by_lose (serve t a b) = false
by_lose (report p t b) = false
by_lose (lose p k) = true

-- what is left of a list that goes with the frames of the port p, once a frame was taken
abbrev pub less_taken : {A : Type 0} → ℕ → Option Took → List A → List A
less_taken p None xs = xs
less_taken p (Some x) xs = cond (p == x.port) (remove xs x.place) xs

abbrev pub makers : ℕ → History → List Bool
makers p begin = []
makers p (h ▹ e) = less_taken p e.took (makers p h) ++ map (λ o. by_registrar e.call) (arrived p e.puts)

-- the mask of ports at which a frame of the registrar did not fit
abbrev pub mask_answered : Answer → ℕ
mask_answered (Refused r) = 0
mask_answered Done = 0
mask_answered (Query q) = 0
mask_answered (Masks x y) = 0
mask_answered (Served x) = served_missed x
mask_answered (Received x) = 0
mask_answered (Lost x) = 0

abbrev pub left_out : ℕ → Event → Bool
left_out p e = in_mask (mask_answered e.answer) p

abbrev pub full_put : ℕ → Event → Bool
full_put p e = by_registrar e.call && some (λ o. is_full (meaning o)) (arrived p e.puts)

abbrev pub mark_taken : ℕ → Option Took → List Bool → Bool
mark_taken p None m = false
mark_taken p (Some x) m = p == x.port && slice_index_or m x.place false

abbrev pub lost_there : ℕ → List Bool → Event → Bool
lost_there p m e = by_lose e.call && mark_taken p e.took m

abbrev pub clean : ℕ → History → Bool
clean p begin = false
clean p (h ▹ e) = cond (left_out p e || lost_there p (makers p h) e) false (full_put p e || clean p h)

abbrev pub official : List Bool → List (List ℕ) → List (List ℕ)
official [] os = []
official (m ∷ ms) [] = []
official (m ∷ ms) (o ∷ os) = cond m (o ∷ official ms os) (official ms os)

-- the book gives the port p the number n
pub record Gives (b : Listing) (p n : ℕ) : Type 0 where
  pub who : Member
  pub listed : has who b ≡ true
  pub there : who.port ≡ p
  pub numbered : who.number ≡ n

pub record InStep (p n r : ℕ) (h : History) (s : State) : Type 0 where
  pub inside : (s.ends p).standing ≡ In n r
  pub gives : Gives s.book p n
  pub whole : clean p h ≡ true

-- what the end at p is once it has read the registrar's frames that wait for it, oldest first
abbrev pub caught_up : ℕ → History → State → Place
caught_up p h s = reading p (place (s.ends p).standing (s.ends p).view) (map meaning (official (makers p h) (s.line p)))

abbrev pub ViewsAgree : Type 0
ViewsAgree =
    (h : History) (s : State) → Reached s h → (p n r : ℕ) → InStep p n r h s → caught_up p h s ≡ place (In n r) s.book
