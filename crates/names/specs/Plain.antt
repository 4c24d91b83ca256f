-- 32 octets of which the first n are a name, and the others 0. Assumes nothing.
use Rattle.std.specs.Prelude.{◌≡◌, ℕ, ◌-◌, List, drop, replicate}

abbrev pub Blank : List ℕ → ℕ → Type 0
Blank bytes n = drop n bytes ≡ replicate (32 - n) 0
