-- The numbers in the order in which they are given. Assumes nothing.
--     after last k        the k-th number after last, k from 0, going from 255 round to 1
--     First ms last n     n is the first number after last that no member of ms holds
use Rattle.std.specs.Prelude.{◌≡◌, ℕ, ◌+◌, ◌%◌, ◌<◌, true, false, List}
use Rattle.words.specs.declared.member.Member.{Member}
use Rattle.book.specs.Sound.{holds}

abbrev pub after : ℕ → ℕ → ℕ
after last k = (last + k) % 255 + 1

-- every number passed over is held
pub record First (ms : List Member) (last n : ℕ) : Type 0 where
  pub place : ℕ
  pub is : n ≡ after last place
  pub free : holds n ms ≡ false
  pub passed : (j : ℕ) → j < place → holds (after last j) ms ≡ true
