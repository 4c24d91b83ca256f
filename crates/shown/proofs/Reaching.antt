-- A run goes on from a state that is written out.
use Rattle.std.proofs.Common.{◌≡◌, ℕ, false, List, [], ◌∷◌, refl, ap, ◌∙◌, arith}
use Rattle.words.specs.declared.member.Member.{Member}
use Rattle.book.specs.Numbers.{First, after}
use Rattle.book.specs.Sound.{holds}
use Rattle.rules.specs.Calls.{State, Given}
use Rattle.shown.specs.Played.{Move, Play, play, played}
use Rattle.shown.specs.Shown.{Reaches}

-- each serve of a registration gives the number that it has to give
abbrev pub Fair : Play → List Move → Type 0
Fair x [] = Unit {0}
Fair x (m ∷ ms) = Given x.state m.call m.number × Fair (play x m) ms

pub next : (x y : Play) (ms : List Move) (s : State) → x ≡ y → (played y ms).state ≡ s
    → played x ms ≡ record { state = s; history = (played y ms).history }
next x y ms s e f = ap (λ z. played z ms) e ∙ (λ i. record { state = f i; history = (played y ms).history })

pub reached_next : (x : Play) (ms : List Move) → Reaches x → Fair x ms → Reaches (played x ms)
reached_next x [] r g = r
reached_next x (m ∷ ms) r g =
    reached_next (play x m) ms (x.state, r, record { number = m.number; given = g.0; happens = refl; becomes = refl }) g.1

-- the number after the last one, which no member holds
pub at_first : (ms : List Member) (l : ℕ) → holds (after l 0) ms ≡ false → First ms l (after l 0)
at_first ms l e = record { place = 0; is = refl; free = e; passed = λ j h. absurd (omega arith) }
