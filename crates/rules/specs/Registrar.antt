-- What the registrar does with a frame. Assumes nothing.
--     Deed                  nothing; one frame back to a port; a new book, of which every member is told by the frame
--                           served; a new book with a new member
--     others p ms           the members at other ports than p
--     Numbered l b m n      n is the number that m, if it is a registration, is given
--     deed b t m n          what it does with m, its book being b, at the time t
--     served b m x          what serve answers, x being the mask of ports at which a frame did not fit
--     booked b d, last_given l d     book and last number given then
--     told d m p            what the port p is told, m being what was served
--     dispatch d t o        the frames that are put, and where, o being the octets that were served
use Rattle.std.specs.Prelude.{ℕ, Bool, cond, List, [], ◌∷◌, map, filter, ◌==◌}
use Rattle.words.specs.declared.applicant.Applicant.{Applicant}
use Rattle.words.specs.declared.member.Member.{Member}
use Rattle.words.specs.declared.reason.Cause.TheVariants.{RuleListFull}
use Rattle.words.specs.declared.reason.Reason.{Reason}
use Rattle.words.specs.declared.reason.Rejected.{Rejected}
use Rattle.words.specs.declared.reason.Rejected.TheVariants.{Invite, Subscribe}
use Rattle.words.specs.declared.rule_kind.RuleKind.{RuleKind}
use Rattle.words.specs.declared.rule_kind.RuleKind.TheVariants.{Subscription, Invitation}
use Rattle.words.specs.Records.{id_of, member_of, module_of}
use Rattle.wire.specs.Frames.{FrameV, rejection, you_are_dead, you_are_in, i_am_starting}
use Rattle.wire.specs.Writes.{write}
use Rattle.book.specs.declared.change.Change.{Change}
use Rattle.book.specs.declared.change.Change.TheVariants.{Starting, Stopping, Enter, Withdraw}
use Rattle.book.specs.Numbers.{First}
use Rattle.book.specs.Sound.{other_port}
use Rattle.rules.specs.declared.served.Served.{Served}
use Rattle.rules.specs.declared.served.Served.TheVariants.{Done, Unchanged, Rejected as RuleRejected, Unknown, Unreadable, SetAside}
use Rattle.rules.specs.Listings.{Listing, has, standing, seated_at, accepts, applied, octets_of}
use Rattle.rules.specs.Meanings.{Meaning, rejects, dead, changes, applies, welcomes, reports, carries, garbled, said}

pub data Deed : Type 0 where
  idle : Deed
  back : ℕ → FrameV → Deed
  spread : Listing → Deed
  admit : Listing → Member → ℕ → Deed

abbrev pub others : ℕ → List Member → List Member
others p ms = filter (other_port p) ms

-- the member at that port goes first, so that its number is free
abbrev pub Numbered : ℕ → Listing → Meaning → ℕ → Type 0
Numbered l b (rejects f y) n = Unit {0}
Numbered l b (dead m) n = Unit {0}
Numbered l b (changes c) n = Unit {0}
Numbered l b (applies q a) n = First (others a.port b.members) l n
Numbered l b (welcomes q m v) n = Unit {0}
Numbered l b (reports v) n = Unit {0}
Numbered l b (carries h o) n = Unit {0}
Numbered l b (garbled e) n = Unit {0}

abbrev pub rejected_kind : RuleKind → Rejected
rejected_kind Subscription = Subscribe
rejected_kind Invitation = Invite

abbrev pub list_full : RuleKind → Reason
list_full k = record { rejected = rejected_kind k; cause = RuleListFull }

-- a member that the book does not have is told that it is dead
abbrev pub tell_dead : ℕ → Member → Deed
tell_dead t w = back w.port (you_are_dead t (module_of w))

abbrev pub tell_full : ℕ → Member → RuleKind → Deed
tell_full t w k = back w.port (rejection t (id_of (module_of w)) (list_full k))

abbrev pub change_deed : Listing → ℕ → Change → Deed
change_deed b t (Starting w) = idle
change_deed b t (Stopping w) = cond (has w b) (spread (applied b (Stopping w))) idle
change_deed b t (Enter w u) =
    cond (has w b)
    (cond (accepts b (Enter w u)) (spread (applied b (Enter w u))) (cond (standing u b) idle (tell_full t w u.kind)))
    (tell_dead t w)
change_deed b t (Withdraw w u) =
    cond (has w b) (cond (accepts b (Withdraw w u)) (spread (applied b (Withdraw w u))) idle) (tell_dead t w)

abbrev pub newcomer : Applicant → ℕ → Member
newcomer a n = member_of n a.role a.port

abbrev pub deed : Listing → ℕ → Meaning → ℕ → Deed
deed b t (rejects f y) n = idle
deed b t (dead m) n = idle
deed b t (changes c) n = change_deed b t c
deed b t (applies q a) n = admit (applied b (Starting (newcomer a n))) (newcomer a n) q
deed b t (welcomes q m v) n = idle
deed b t (reports v) n = idle
deed b t (carries h o) n = idle
deed b t (garbled e) n = idle

abbrev pub change_served : Listing → Change → ℕ → Served
change_served b (Starting w) x = SetAside
change_served b (Stopping w) x = cond (has w b) (Done x) (Unknown x)
change_served b (Enter w u) x =
    cond (has w b) (cond (accepts b (Enter w u)) (Done x) (cond (standing u b) Unchanged (RuleRejected x))) (Unknown x)
change_served b (Withdraw w u) x = cond (has w b) (cond (accepts b (Withdraw w u)) (Done x) Unchanged) (Unknown x)

abbrev pub served : Listing → Meaning → ℕ → Served
served b (rejects f y) x = SetAside
served b (dead m) x = SetAside
served b (changes c) x = change_served b c x
served b (applies q a) x = Done x
served b (welcomes q m v) x = SetAside
served b (reports v) x = SetAside
served b (carries h o) x = SetAside
served b (garbled e) x = Unreadable e

abbrev pub booked : Listing → Deed → Listing
booked b idle = b
booked b (back p f) = b
booked b (spread v) = v
booked b (admit v w q) = v

abbrev pub last_given : ℕ → Deed → ℕ
last_given l idle = l
last_given l (back p f) = l
last_given l (spread v) = l
last_given l (admit v w q) = w.number

abbrev pub one_if : {A : Type 0} → Bool → A → List A
one_if b x = cond b (x ∷ []) []

abbrev pub told : Deed → Meaning → ℕ → List Meaning
told idle m p = []
told (back q f) m p = one_if (p == q) (said f)
told (spread v) m p = one_if (seated_at p v) m
told (admit v w q) m p = cond (p == w.port) (welcomes q w v ∷ []) (one_if (seated_at p v) (changes (Starting w)))

-- a frame for a port
pub record Sending : Type 0 where
  pub port : ℕ
  pub octets : List ℕ

abbrev pub sending : ℕ → List ℕ → Sending
sending p o = record { port = p; octets = o }

-- one frame to each of these
abbrev pub to_each : List ℕ → List Member → List Sending
to_each o ms = map (λ m. sending m.port o) ms

abbrev pub dispatch : Deed → ℕ → List ℕ → List Sending
dispatch idle t o = []
dispatch (back p f) t o = sending p (write f) ∷ []
dispatch (spread v) t o = to_each o v.members
dispatch (admit v w q) t o =
    sending w.port (write (you_are_in t q w (octets_of v)))
    ∷ to_each (write (i_am_starting t w)) (others w.port v.members)
