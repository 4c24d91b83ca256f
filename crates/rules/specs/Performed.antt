-- Calls made one after the other, each by the rules, with all that is promised after each. Assumes nothing.
--     Promised h s          the three promises, in the state s that the run h leads to
--     Made s e t            the call of e, made in s, answers and acts as e says and leaves t; and whatever run led to s,
--                           the promises hold after it
--     Ran s cs xs t         the calls cs, made one after the other from s on, answer xs and leave t, each of them so
use Rattle.std.specs.Prelude.{◌≡◌, ℕ, List, [], ◌∷◌}
use Rattle.rules.specs.declared.answer.Answer.{Answer}
use Rattle.rules.specs.declared.standing.Standing.TheVariants.{In}
use Rattle.rules.specs.Ends.{place}
use Rattle.rules.specs.Calls.{State, Call, Event}
use Rattle.rules.specs.Runs.{History, ◌▹◌, Step, Reached}
use Rattle.rules.specs.Promises.{InStep, caught_up}
use Rattle.rules.specs.Upheld.{Standing}
use Rattle.rules.specs.Copies.{Account}

pub record Promised (h : History) (s : State) : Type 0 where
  -- views agree
  pub views : (p n r : ℕ) → InStep p n r h s → caught_up p h s ≡ place (In n r) s.book
  -- rules stand as served
  pub rules : Standing h s
  -- copies add up
  pub copies : (p : ℕ) → Account p h s

pub record Made (s : State) (e : Event) (t : State) : Type 0 where
  pub step : Step s e t
  pub reaches : (h : History) → Reached s h → Reached t (h ▹ e)
  pub promised : (h : History) → Reached s h → Promised (h ▹ e) t

abbrev pub Ran : State → List Call → List Answer → State → Type 0
Ran s [] xs t = (xs ≡ []) × (t ≡ s)
Ran s (c ∷ cs) xs t =
    (e : Event) × (u : State) × (ys : List Answer) × (e.call ≡ c) × Made s e u × (xs ≡ e.answer ∷ ys) × Ran u cs ys t

-- whatever is reached keeps the promises, and every step keeps them
pub record Promises : Type 0 where
  pub reached : (h : History) (s : State) → Reached s h → Promised h s
  pub made : (s : State) (e : Event) (t : State) → Step s e t → Made s e t
