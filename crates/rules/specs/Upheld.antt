-- Which rules stand, read off what serve answered and the frames that it took. Assumes nothing.
--     serve_code a        the code that serve answered, 0 for any other answer
--     Serving e m         the call e was a serve that answered code 1, and the frame that it took says m
--     Enters e w u        it entered the rule u of the member w: a subscribe or an invite
--     Withdraws e u       it withdrew the rule u: an unsubscribe or a disinvite
--     Ends e w            it ended the membership of w: its I_am_stopping, or a registration at its port
--     h ▸▸ l              the run h, and then the calls l
--     Every P l           P holds of each call of l
--     Stood u h           in the run h a serve entered the rule u, and none later withdrew it or ended its member's
--                         membership
--     RulesStand         the rules of the book are those that stood, and no number stands at two ports
use Rattle.std.specs.Prelude.{◌≡◌, ℕ, true, ◌⊎◌, Some}
use Rattle.words.specs.declared.applicant.Applicant.{Applicant}
use Rattle.words.specs.declared.member.Member.{Member}
use Rattle.words.specs.declared.rule.Rule.{Rule}
use Rattle.book.specs.declared.change.Change.TheVariants.{Stopping, Enter, Withdraw}
use Rattle.rules.specs.declared.answer.Answer.{Answer}
use Rattle.rules.specs.declared.answer.Answer.TheVariants.{Refused, Done, Query, Masks, Served, Received, Lost}
use Rattle.rules.specs.Codes.{served_code}
use Rattle.rules.specs.Listings.{has, standing}
use Rattle.rules.specs.Meanings.{Meaning, changes, applies, meaning}
use Rattle.rules.specs.Calls.{State, Took, Event}
use Rattle.rules.specs.Runs.{History, begin, ◌▹◌, Reached}

abbrev pub serve_code : Answer → ℕ
serve_code (Refused r) = 0
serve_code Done = 0
serve_code (Query q) = 0
serve_code (Masks x y) = 0
serve_code (Served x) = served_code x
serve_code (Received x) = 0
serve_code (Lost x) = 0

pub record Serving (e : Event) (m : Meaning) : Type 0 where
  pub code : serve_code e.answer ≡ 1
  pub frame : Took
  pub taken : e.took ≡ Some frame
  pub says : meaning frame.octets ≡ m

abbrev pub Enters : Event → Member → Rule → Type 0
Enters e w u = Serving e (changes (Enter w u))

abbrev pub Withdraws : Event → Rule → Type 0
Withdraws e u = (w : Member) × Serving e (changes (Withdraw w u))

abbrev pub Ends : Event → Member → Type 0
Ends e w = Serving e (changes (Stopping w)) ⊎ ((q : ℕ) × (a : Applicant) × Serving e (applies q a) × (a.port ≡ w.port))

infixl 40 ◌▸▸◌
abbrev pub ◌▸▸◌ : History → History → History
◌▸▸◌ h begin = h
◌▸▸◌ h (l ▹ e) = (h ▸▸ l) ▹ e

abbrev pub Every : (Event → Type 0) → History → Type 0
Every P begin = Unit {0}
Every P (l ▹ e) = Every P l × P e

pub record Stood (u : Rule) (h : History) : Type 0 where
  pub before : History
  pub entry : Event
  pub later : History
  pub whose : Member
  pub split : h ≡ (before ▹ entry) ▸▸ later
  pub enters : Enters entry whose u
  pub lasts : Every (λ e. (Withdraws e u → ⊥) × (Ends e whose → ⊥)) later

pub record Standing (h : History) (s : State) : Type 0 where
  pub entered : (u : Rule) → standing u s.book ≡ true → Stood u h
  pub stands : (u : Rule) → Stood u h → standing u s.book ≡ true
  pub apart : (v w : Member) → has v s.book ≡ true → has w s.book ≡ true → v.number ≡ w.number → v.port ≡ w.port

abbrev pub RulesStand : Type 0
RulesStand = (h : History) (s : State) → Reached s h → Standing h s
