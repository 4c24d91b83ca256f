-- Histories of calls, and the states that they reach. Assumes nothing.
--     History             the calls of a run with their answers, the newest last
--     Step s e t          the call of e, made in the state s, answers and acts as e says, and leaves t
--     New s               a new space: nothing waits, the book is empty, every end is out
--     Reached s h         the run h leads from a new space to s
use Rattle.std.specs.Prelude.{◌≡◌, ℕ, ◌≤◌, []}
use Rattle.rules.specs.declared.standing.Standing.TheVariants.{Out}
use Rattle.rules.specs.Listings.{blank}
use Rattle.rules.specs.Calls.{State, end, Event, Given, event, after, last_query}

infixl 50 ◌▹◌
pub data History : Type 0 where
  begin : History
  ◌▹◌ : History → Event → History

pub record Step (s : State) (e : Event) (t : State) : Type 0 where
  pub number : ℕ
  pub given : Given s e.call number
  pub happens : e ≡ event s e.call number
  pub becomes : t ≡ after s e.call number

-- whatever the first query number, and over any line: no law of the fitting rule is asked for
pub record New (s : State) : Type 0 where
  pub nothing_waits : (p : ℕ) → s.line p ≡ []
  pub no_book : s.book ≡ blank
  pub none_given : s.last ≡ 0
  pub first : ℕ
  pub positive : 1 ≤ first
  pub fits : first ≤ last_query
  pub all_out : (p : ℕ) → s.ends p ≡ end Out blank first

abbrev pub Reached : State → History → Type 0
Reached s begin = New s
Reached t (h ▹ e) = (s : State) × Reached s h × Step s e t
