-- Runs of calls, played from a new space over a line with four places at each port. Assumes nothing.
--     slots             a frame fits at a port where fewer than four wait
--     start             a new space: nothing waits, the book is empty, every end is out; the first query number is 1
--     Move              a call, the number that it gives if it serves a registration, and what it is said to answer
--     c answers a       the call c, which gives no number
--     admits n          a serve that gives the number n
--     Play              the state that a run has reached, and its history
--     opening           the run of no calls
--     played x ms       the run x, and then the moves ms; what they are said to answer is not looked at
--     given_answers h   what the calls of h answered, in their order
--     said_answers ms   what the moves are said to answer
use Rattle.std.specs.Prelude.{ℕ, List, [], ◌∷◌, ◌++◌, map, length, nat_lt}
use Rattle.line.specs.Lines.{Rule as Fitting}
use Rattle.rules.specs.declared.answer.Answer.{Answer}
use Rattle.rules.specs.declared.answer.Answer.TheVariants.{Served}
use Rattle.rules.specs.declared.served.Served.TheVariants.{Done as Changed}
use Rattle.rules.specs.declared.standing.Standing.TheVariants.{Out}
use Rattle.rules.specs.Listings.{blank}
use Rattle.rules.specs.Calls.{State, end, Call, serve, event, after}
use Rattle.rules.specs.Runs.{History, begin, ◌▹◌}

abbrev pub slots : Fitting
slots ns n = nat_lt (length ns) 4

abbrev pub start : State
start = record { fitting = slots; line = λ p. []; book = blank; last = 0; ends = λ p. end Out blank 1 }

pub record Move : Type 0 where
  pub call : Call
  pub number : ℕ
  pub answer : Answer

infix 70 ◌answers◌
abbrev pub ◌answers◌ : Call → Answer → Move
◌answers◌ c a = record { call = c; number = 0; answer = a }

-- at time 0, with buffers of 1,012 octets; every frame fits
abbrev pub serves : Call
serves = serve 0 1012 1012

abbrev pub admits : ℕ → Move
admits n = record { call = serves; number = n; answer = Served (Changed 0) }

pub record Play : Type 0 where
  pub state : State
  pub history : History

abbrev pub opening : Play
opening = record { state = start; history = begin }

abbrev pub play : Play → Move → Play
play x m = record {
  state = after x.state m.call m.number;
  history = x.history ▹ event x.state m.call m.number;
}

abbrev pub played : Play → List Move → Play
played x [] = x
played x (m ∷ ms) = played (play x m) ms

abbrev pub given_answers : History → List Answer
given_answers begin = []
given_answers (h ▹ e) = given_answers h ++ e.answer ∷ []

abbrev pub said_answers : List Move → List Answer
said_answers ms = map (λ m. m.answer) ms
