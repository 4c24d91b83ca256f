-- Frames put one after the other, each where it fits. Assumes nothing.
--     Put                 a frame that was to be put: its port, its octets, and whether it fitted
--     offers rule w xs    what became of each of the frames xs
--     queued rule w xs    what waits then
--     arrived p ps        the octets that were put at the port p
--     mask_of f ps        the mask of the ports of those that pass f
--     reached_mask ps, missed_mask ps     of those that fitted, and of those that did not
use Rattle.std.specs.Prelude.{ℕ, Bool, cond, not, ◌&&◌, List, [], ◌∷◌, length, ◌==◌, bit_or}
use Rattle.line.specs.Lines.{Rule, Waiting, admits}
use Rattle.line.specs.Offers.{offered, port_bit}
use Rattle.rules.specs.Registrar.{Sending}

pub record Put : Type 0 where
  pub port : ℕ
  pub octets : List ℕ
  pub fitted : Bool

abbrev pub offer : Rule → Waiting → Sending → Put
offer rule w x = record { port = x.port; octets = x.octets; fitted = admits rule w x.port (length x.octets) }

abbrev pub offers : Rule → Waiting → List Sending → List Put
offers rule w [] = []
offers rule w (x ∷ xs) = offer rule w x ∷ offers rule (offered rule w x.port x.octets) xs

abbrev pub queued : Rule → Waiting → List Sending → Waiting
queued rule w [] = w
queued rule w (x ∷ xs) = queued rule (offered rule w x.port x.octets) xs

abbrev pub arrived : ℕ → List Put → List (List ℕ)
arrived p [] = []
arrived p (x ∷ xs) = cond (p == x.port && x.fitted) (x.octets ∷ arrived p xs) (arrived p xs)

abbrev pub mask_of : (Put → Bool) → List Put → ℕ
mask_of f [] = 0
mask_of f (x ∷ xs) = bit_or (cond (f x) (port_bit x.port) 0) (mask_of f xs)

abbrev pub reached_mask : List Put → ℕ
reached_mask ps = mask_of (λ x. x.fitted) ps

abbrev pub missed_mask : List Put → ℕ
missed_mask ps = mask_of (λ x. not x.fitted) ps
