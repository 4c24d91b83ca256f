-- What a module end does with a frame. Assumes nothing.
--     Place                what an end is, with its view
--     names p n c          the change c is of a member with the number n or at the port p
--     reads p s v m        what the end at port p, being s with the view v, is after reading m
--     reading p e ms       and after reading all of ms, the first one first
--     for_audience k n     whom a message of kind k to the number n is for
--     wanted p n r v h     the end's own rules in its view ask for the message
--     change_type c        the type of the frame that tells of the change c
--     received p s v m     what receive answers for m
use Rattle.std.specs.Prelude.{ℕ, Bool, false, cond, not, ◌&&◌, ◌||◌, List, [], ◌∷◌, ◌==◌}
use Rattle.words.specs.declared.head.MessageHead.{MessageHead}
use Rattle.words.specs.declared.member.Member.{Member}
use Rattle.words.specs.declared.message_kind.MessageKind.{MessageKind}
use Rattle.words.specs.declared.message_kind.MessageKind.TheVariants.{Published as PublishedKind, Announced as AnnouncedKind, Private as PrivateKind}
use Rattle.words.specs.declared.rule_kind.RuleKind.{RuleKind}
use Rattle.words.specs.declared.rule_kind.RuleKind.TheVariants.{Subscription, Invitation}
use Rattle.words.specs.Records.{id_of, member_of, module_by}
use Rattle.wire.specs.declared.meta_type.MetaType.{MetaType}
use Rattle.wire.specs.declared.meta_type.MetaType.TheVariants.{Rejection, YouAreDead, Invite, Disinvite, ModuleRegistration, YouAreIn, IAmStarting, Subscribe, Unsubscribe, IAmStopping, CellStatus}
use Rattle.book.specs.declared.audience.Audience.{Audience}
use Rattle.book.specs.declared.audience.Audience.TheVariants.{Published, Announced, Private}
use Rattle.words.specs.declared.module_id.ModuleId.{ModuleId}
use Rattle.book.specs.declared.change.Change.{Change}
use Rattle.book.specs.declared.change.Change.TheVariants.{Starting, Stopping, Enter, Withdraw}
use Rattle.book.specs.Matching.{receives}
use Rattle.rules.specs.declared.received.Received.{Received}
use Rattle.rules.specs.declared.received.Received.TheVariants.{HandedOver, TurnedAside, Read, Rejected, Unreadable, SetAside}
use Rattle.rules.specs.declared.standing.Standing.{Standing}
use Rattle.rules.specs.declared.standing.Standing.TheVariants.{Out, Asked, In}
use Rattle.rules.specs.Listings.{Listing, blank, has, accepts, applied}
use Rattle.rules.specs.Meanings.{Meaning, rejects, dead, changes, applies, welcomes, reports, carries, garbled}

pub record Place : Type 0 where
  pub standing : Standing
  pub view : Listing

abbrev pub place : Standing → Listing → Place
place s v = record { standing = s; view = v }

-- an end that goes out has no view
abbrev pub gone : Place
gone = place Out blank

abbrev pub names : ℕ → ℕ → Change → Bool
names p n (Starting w) = w.number == n || w.port == p
names p n (Stopping w) = w.number == n || w.port == p
names p n (Enter w u) = false
names p n (Withdraw w u) = false

-- you_are_in answers the question of the end at port p: its query number, its port and its role
abbrev pub answers : ℕ → ℕ → ℕ → ℕ → Member → Bool
answers p r q x w = x == q && (w.port == p && w.role == r)

abbrev pub reads : ℕ → Standing → Listing → Meaning → Place
reads p Out v m = place Out v
reads p (Asked r q) v (rejects f y) = place (Asked r q) v
reads p (Asked r q) v (dead m) = place (Asked r q) v
reads p (Asked r q) v (changes c) = place (Asked r q) v
reads p (Asked r q) v (applies x a) = place (Asked r q) v
reads p (Asked r q) v (welcomes x w b) = cond (answers p r q x w) (place (In w.number w.role) b) (place (Asked r q) v)
reads p (Asked r q) v (reports b) = place (Asked r q) v
reads p (Asked r q) v (carries h o) = place (Asked r q) v
reads p (Asked r q) v (garbled e) = place (Asked r q) v
reads p (In n r) v (rejects f y) = place (In n r) v
reads p (In n r) v (dead m) = cond (m.number == n && m.role == r) gone (place (In n r) v)
reads p (In n r) v (changes c) = place (In n r) (cond (names p n c) v (applied v c))
reads p (In n r) v (applies x a) = place (In n r) v
reads p (In n r) v (welcomes x w b) = place (In n r) v
reads p (In n r) v (reports b) = cond (has (member_of n r p) b) (place (In n r) b) gone
reads p (In n r) v (carries h o) = place (In n r) v
reads p (In n r) v (garbled e) = place (In n r) v

abbrev pub reading : ℕ → Place → List Meaning → Place
reading p e [] = e
reading p e (m ∷ ms) = reading p (reads p e.standing e.view m) ms

-- an announced message says nothing of its domain, which the sender looked at
abbrev pub for_audience : MessageKind → ℕ → Audience
for_audience PublishedKind n = Published
for_audience AnnouncedKind n = Announced 0
for_audience PrivateKind n = Private n

abbrev pub sender_of : MessageHead → ModuleId
sender_of h = record { number = h.sender; role = h.role }

abbrev pub wanted : ℕ → ℕ → ℕ → Listing → MessageHead → Bool
wanted p n r v h = h.receiver == n && receives v.rules (for_audience h.kind n) (sender_of h) h.subject (member_of n r p)

abbrev pub handed : Bool → ℕ → Received
handed b n = cond b (HandedOver n) (TurnedAside n)

-- acted on, or not
abbrev pub acted : Bool → MetaType → Received
acted b k = cond b (Read k) (SetAside k)

abbrev pub entering_type : RuleKind → MetaType
entering_type Subscription = Subscribe
entering_type Invitation = Invite

abbrev pub withdrawing_type : RuleKind → MetaType
withdrawing_type Subscription = Unsubscribe
withdrawing_type Invitation = Disinvite

abbrev pub change_type : Change → MetaType
change_type (Starting w) = IAmStarting
change_type (Stopping w) = IAmStopping
change_type (Enter w u) = entering_type u.kind
change_type (Withdraw w u) = withdrawing_type u.kind

abbrev pub received : ℕ → Standing → Listing → Meaning → Received
received p Out v (rejects f y) = SetAside Rejection
received p Out v (dead m) = SetAside YouAreDead
received p Out v (changes c) = SetAside (change_type c)
received p Out v (applies x a) = SetAside ModuleRegistration
received p Out v (welcomes x w b) = SetAside YouAreIn
received p Out v (reports b) = SetAside CellStatus
received p Out v (carries h o) = TurnedAside h.sender
received p Out v (garbled e) = Unreadable e
received p (Asked r q) v (rejects f y) = SetAside Rejection
received p (Asked r q) v (dead m) = SetAside YouAreDead
received p (Asked r q) v (changes c) = SetAside (change_type c)
received p (Asked r q) v (applies x a) = SetAside ModuleRegistration
received p (Asked r q) v (welcomes x w b) = acted (answers p r q x w) YouAreIn
received p (Asked r q) v (reports b) = SetAside CellStatus
received p (Asked r q) v (carries h o) = TurnedAside h.sender
received p (Asked r q) v (garbled e) = Unreadable e
received p (In n r) v (rejects f y) = cond (f == id_of (module_by n r)) (Rejected y) (SetAside Rejection)
received p (In n r) v (dead m) = acted (m.number == n && m.role == r) YouAreDead
received p (In n r) v (changes c) = acted (not (names p n c) && accepts v c) (change_type c)
received p (In n r) v (applies x a) = SetAside ModuleRegistration
received p (In n r) v (welcomes x w b) = SetAside YouAreIn
received p (In n r) v (reports b) = Read CellStatus
received p (In n r) v (carries h o) = handed (wanted p n r v h) h.sender
received p (In n r) v (garbled e) = Unreadable e
