-- The calls of one end, and of the registrar, apart from the rest of the space. Assumes nothing.
--     answer_of f r            what a call answers: f of its value, or its refusal
--     alone rule w e           a state in which the end is e, whatever its port
--     EndDid                  what a call of the end at port p answers, and what it leaves of line and end
--     served_alone rule w b l  a state with the registrar's book b and the number l that it gave last
--     RegistrarDid            what a call of the registrar answers, and what it leaves of line, book and last number
--     taken_into               the buffer that a frame was taken into: it begins with the frame, the rest as it was;
--                              as it was if the call was refused
--     Built                    a buffer that was built in: past the longest frame as it was; all of it if refused
use Rattle.std.specs.Prelude.{◌≡◌, ℕ, List, ◌++◌, length, drop, Ok, Err, Result}
use Rattle.line.specs.Lines.{Rule as Fitting, Waiting, longest_frame}
use Rattle.rules.specs.declared.answer.Answer.{Answer}
use Rattle.rules.specs.declared.answer.Answer.TheVariants.{Refused}
use Rattle.rules.specs.declared.refusal.Refusal.{Refusal}
use Rattle.rules.specs.declared.standing.Standing.TheVariants.{Out}
use Rattle.rules.specs.Listings.{Listing, blank}
use Rattle.rules.specs.Calls.{End, end, State, Call, Given, event, after}

abbrev pub answer_of : {A : Type 0} → (A → Answer) → Result A Refusal → Answer
answer_of f (Ok x) = f x
answer_of f (Err r) = Refused r

abbrev pub alone : Fitting → Waiting → End → State
alone rule w e = record { fitting = rule; line = w; book = blank; last = 0; ends = λ q. e }

pub record EndDid (p : ℕ) (rule : Fitting) (w : Waiting) (e : End) (c : Call) (a : Answer) (w' : Waiting) (e' : End) : Type 0 where
  pub answers : a ≡ (event (alone rule w e) c 0).answer
  pub leaves : w' ≡ (after (alone rule w e) c 0).line
  pub becomes : e' ≡ (after (alone rule w e) c 0).ends p

abbrev pub served_alone : Fitting → Waiting → Listing → ℕ → State
served_alone rule w b l = record { fitting = rule; line = w; book = b; last = l; ends = λ q. end Out blank 1 }

pub record RegistrarDid (rule : Fitting) (w : Waiting) (b : Listing) (l : ℕ) (c : Call) (a : Answer) (w' : Waiting) (b' : Listing) (l' : ℕ) : Type 0 where
  pub number : ℕ
  pub given : Given (served_alone rule w b l) c number
  pub answers : a ≡ (event (served_alone rule w b l) c number).answer
  pub leaves : w' ≡ (after (served_alone rule w b l) c number).line
  pub books : b' ≡ (after (served_alone rule w b l) c number).book
  pub lasts : l' ≡ (after (served_alone rule w b l) c number).last

abbrev pub taken_into : {A : Type 0} → Result A Refusal → List ℕ → List ℕ → List ℕ
taken_into (Ok x) o buffer = o ++ drop (length o) buffer
taken_into (Err r) o buffer = buffer

abbrev pub Built : {A : Type 0} → Result A Refusal → List ℕ → List ℕ → Type 0
Built (Ok x) entry exit = drop longest_frame exit ≡ drop longest_frame entry
Built (Err r) entry exit = exit ≡ entry
