-- Frames one after another: their lengths, and all their octets in a row. Assumes nothing.
--     IsLength n            n is the length of a frame
--     cut ns bs             the octets bs, cut into pieces of the lengths ns
--     IsPiece ns i a b      there is a piece i, from 0, and it goes from a to below b
use Rattle.std.specs.Prelude.{◌≡◌, ℕ, ◌+◌, ◌<◌, ◌≤◌, List, [], ◌∷◌, take, drop, length, slice_index}
use Rattle.std.specs.List.{sum}
use Rattle.line.specs.Lines.{longest_frame}

abbrev pub IsLength : ℕ → Type 0
IsLength n = (0 < n) × (n ≤ longest_frame)

abbrev pub cut : List ℕ → List ℕ → List (List ℕ)
cut [] bs = []
cut (n ∷ ns) bs = take n bs ∷ cut ns (drop n bs)

pub record IsPiece (ns : List ℕ) (i start end : ℕ) : Type 0 where
  pub there : i < length ns
  pub from : start ≡ sum (take i ns)
  pub long : end ≡ start + slice_index ns i
  pub some : start < end
