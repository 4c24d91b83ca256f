-- What a frame says to whom it reaches, apart from its time tag. Assumes nothing.
--     Meaning             a rejection with its reference; you_are_dead; a change of the book; a registration;
--                         you_are_in; cell_status; a message; octets that are no frame
--     said v              what the frame v says
--     meaning xs          what the octets xs say
--     is_message m        m is a message
--     is_full m           m is a full report: you_are_in or cell_status
use Rattle.std.specs.Prelude.{ℕ, Bool, true, false, List, Ok, Err, Result}
use Rattle.words.specs.declared.applicant.Applicant.{Applicant}
use Rattle.words.specs.declared.head.MessageHead.{MessageHead}
use Rattle.words.specs.declared.member.Member.{Member}
use Rattle.words.specs.declared.module_id.ModuleId.{ModuleId}
use Rattle.words.specs.declared.reason.Reason.{Reason}
use Rattle.wire.specs.declared.fault.FrameFault.{FrameFault}
use Rattle.wire.specs.Frames.{FrameV, rejection, you_are_dead, invite, disinvite, module_registration, you_are_in, i_am_starting, subscribe, unsubscribe, i_am_stopping, cell_status, message}
use Rattle.wire.specs.Reads.{read}
use Rattle.book.specs.declared.change.Change.{Change}
use Rattle.book.specs.declared.change.Change.TheVariants.{Starting, Stopping, Enter, Withdraw}
use Rattle.rules.specs.Listings.{Listing, listing_in}

pub data Meaning : Type 0 where
  rejects : ℕ → Reason → Meaning
  dead : ModuleId → Meaning
  changes : Change → Meaning
  applies : ℕ → Applicant → Meaning
  welcomes : ℕ → Member → Listing → Meaning
  reports : Listing → Meaning
  carries : MessageHead → List ℕ → Meaning
  garbled : FrameFault → Meaning

abbrev pub said : FrameV → Meaning
said (rejection t f y) = rejects f y
said (you_are_dead t m) = dead m
said (invite c) = changes (Enter c.member c.rule)
said (disinvite c) = changes (Withdraw c.member c.rule)
said (module_registration t q a) = applies q a
said (you_are_in t q m b) = welcomes q m (listing_in b)
said (i_am_starting t m) = changes (Starting m)
said (subscribe c) = changes (Enter c.member c.rule)
said (unsubscribe c) = changes (Withdraw c.member c.rule)
said (i_am_stopping t m) = changes (Stopping m)
said (cell_status t b) = reports (listing_in b)
said (message h b) = carries h b

abbrev pub said_by : Result FrameV FrameFault → Meaning
said_by (Ok v) = said v
said_by (Err e) = garbled e

abbrev pub meaning : List ℕ → Meaning
meaning xs = said_by (read xs)

abbrev pub is_message : Meaning → Bool
is_message (rejects f y) = false
is_message (dead m) = false
is_message (changes c) = false
is_message (applies q a) = false
is_message (welcomes q m b) = false
is_message (reports b) = false
is_message (carries h b) = true
is_message (garbled e) = false

abbrev pub is_full : Meaning → Bool
is_full (rejects f y) = false
is_full (dead m) = false
is_full (changes c) = false
is_full (applies q a) = false
is_full (welcomes q m b) = true
is_full (reports b) = true
is_full (carries h b) = false
is_full (garbled e) = false
