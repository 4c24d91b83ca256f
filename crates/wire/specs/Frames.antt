-- A frame as a value: its fields, and the octets that it lends as a list. Assumes nothing.
--     FrameV              a frame of each type; times, references and query numbers as numbers
--     value f             the value of a frame of the code
--     seen r              what reading answered, as a value
--     place_of f          the place in the frame at which its book or content begins, 0 if it has none
--     home v              where the type has it
--     Gives r v           reading answered r, whose value is v, and its book or content begins where the type has it
use Rattle.std.specs.Prelude.{◌≡◌, ℕ, List, Ok, Err, Result, IfOk}
use Rattle.words.specs.declared.member.Member.{Member}
use Rattle.words.specs.declared.applicant.Applicant.{Applicant}
use Rattle.words.specs.declared.module_id.ModuleId.{ModuleId}
use Rattle.words.specs.declared.reason.Reason.{Reason}
use Rattle.words.specs.declared.head.MessageHead.{MessageHead}
use Rattle.wire.specs.declared.fault.FrameFault.{FrameFault}
use Rattle.wire.specs.declared.frame.RuleChange.{RuleChange}
use Rattle.wire.specs.declared.frame.Frame.{Frame}
use Rattle.wire.specs.declared.frame.Frame.TheVariants.{Rejection, YouAreDead, Invite, Disinvite, ModuleRegistration, YouAreIn, IAmStarting, Subscribe, Unsubscribe, IAmStopping, CellStatus, Message}

pub data FrameV : Type 0 where
  rejection : ℕ → ℕ → Reason → FrameV
  you_are_dead : ℕ → ModuleId → FrameV
  invite : RuleChange → FrameV
  disinvite : RuleChange → FrameV
  module_registration : ℕ → ℕ → Applicant → FrameV
  you_are_in : ℕ → ℕ → Member → List ℕ → FrameV
  i_am_starting : ℕ → Member → FrameV
  subscribe : RuleChange → FrameV
  unsubscribe : RuleChange → FrameV
  i_am_stopping : ℕ → Member → FrameV
  cell_status : ℕ → List ℕ → FrameV
  message : MessageHead → List ℕ → FrameV

abbrev pub value : Frame → FrameV
value (Rejection t f y) = rejection t f y
value (YouAreDead t m) = you_are_dead t m
value (Invite c) = invite c
value (Disinvite c) = disinvite c
value (ModuleRegistration t q a) = module_registration t q a
value (YouAreIn t q m b) = you_are_in t q m b.octets.now
value (IAmStarting t m) = i_am_starting t m
value (Subscribe c) = subscribe c
value (Unsubscribe c) = unsubscribe c
value (IAmStopping t m) = i_am_stopping t m
value (CellStatus t b) = cell_status t b.octets.now
value (Message h b) = message h b.octets.now

abbrev pub seen : Result Frame FrameFault → Result FrameV FrameFault
seen (Ok f) = Ok (value f)
seen (Err e) = Err e

abbrev pub place_of : Frame → ℕ
place_of (Rejection t f y) = 0
place_of (YouAreDead t m) = 0
place_of (Invite c) = 0
place_of (Disinvite c) = 0
place_of (ModuleRegistration t q a) = 0
place_of (YouAreIn t q m b) = b.place
place_of (IAmStarting t m) = 0
place_of (Subscribe c) = 0
place_of (Unsubscribe c) = 0
place_of (IAmStopping t m) = 0
place_of (CellStatus t b) = b.place
place_of (Message h b) = b.place

abbrev pub home : FrameV → ℕ
home (rejection t f y) = 0
home (you_are_dead t m) = 0
home (invite c) = 0
home (disinvite c) = 0
home (module_registration t q a) = 0
home (you_are_in t q m b) = 22
home (i_am_starting t m) = 0
home (subscribe c) = 0
home (unsubscribe c) = 0
home (i_am_stopping t m) = 0
home (cell_status t b) = 18
home (message h b) = 12

abbrev pub Gives : Result Frame FrameFault → Result FrameV FrameFault → Type 0
Gives r v = (seen r ≡ v) × IfOk r (λ f. place_of f ≡ home (value f))
