-- What a run of octets is: a frame, or the first fault in the order of the checks. Assumes nothing.
--     ends h r b          the role octet is r, and then the reference is right (b)
--     read-..             the frame of one type, its header being read
--     by_type k           the frame of type k
--     read xs             the frame in the octets xs
use Rattle.std.specs.Prelude.{ℕ, ◌+◌, Bool, true, false, cond, ◌&&◌, List, [], ◌∷◌, length, drop, Some, None, Ok, Err, Option, Result, ◌==◌, nat_le, nat_lt}
use Rattle.words.specs.declared.member.Member.{Member}
use Rattle.words.specs.declared.rule.Rule.{Rule}
use Rattle.words.specs.declared.rule_kind.RuleKind.{RuleKind}
use Rattle.words.specs.declared.rule_kind.RuleKind.TheVariants.{Subscription, Invitation}
use Rattle.words.specs.declared.message_kind.MessageKind.{MessageKind}
use Rattle.words.specs.Words.{word_at, kind_of}
use Rattle.words.specs.Records.{read_member, read_applicant, read_rule, read_reason, is_module, module_in, id_of, module_of, member_word}
use Rattle.words.specs.Heads.{message_kind, read_head, content_length}
use Rattle.words.specs.Books.{read_book, has_word}
use Rattle.wire.specs.declared.fault.FrameFault.{FrameFault}
use Rattle.wire.specs.declared.fault.FrameFault.TheVariants.{Short, UnknownKind, ContentLength, Word, Role, Reference}
use Rattle.wire.specs.declared.header.Header.{Header}
use Rattle.wire.specs.declared.frame.RuleChange.{RuleChange}
use Rattle.wire.specs.declared.meta_type.MetaType.{MetaType}
use Rattle.wire.specs.declared.meta_type.MetaType.TheVariants.{Rejection, YouAreDead, Invite, Disinvite, ModuleRegistration, YouAreIn, IAmStarting, Subscribe, Unsubscribe, IAmStopping, CellStatus}
use Rattle.wire.specs.Checks.{checked, passing, and_then, up}
use Rattle.wire.specs.Headers.{octet, read_header}
use Rattle.wire.specs.Frames.{FrameV, rejection, you_are_dead, invite, disinvite, module_registration, you_are_in, i_am_starting, subscribe, unsubscribe, i_am_stopping, cell_status, message}

abbrev pub ends : Header → ℕ → Bool → Result (Unit {0}) FrameFault
ends h r b = passing (((h.role == r), Role) ∷ (b, Reference) ∷ [])

abbrev pub refers_to : Header → Member → Bool
refers_to h m = h.reference == id_of (module_of m)

abbrev pub wrong_at : ℕ → FrameFault
wrong_at place = Word (record { place = place })

abbrev pub read_rejection : List ℕ → Header → Result FrameV FrameFault
read_rejection xs h =
    and_then (up (read_reason (word_at xs 18) 18)) λ y.
    and_then (ends h 0 true) λ _.
    Ok (rejection h.time h.reference y)

-- the reference is a Module ID
abbrev pub read_dead : Header → Result FrameV FrameFault
read_dead h = and_then (ends h 0 (is_module h.reference)) λ _. Ok (you_are_dead h.time (module_in h.reference))

-- a rule of this kind and of the member's number
abbrev pub read_own_rule : RuleKind → List ℕ → Member → Result Rule FrameFault
read_own_rule k xs m =
    and_then (up (read_rule k (word_at xs 22) 22)) λ u.
    checked (((u.number == m.number), wrong_at 22) ∷ []) (Ok u)

abbrev pub read_change : RuleKind → List ℕ → Header → Result RuleChange FrameFault
read_change k xs h =
    and_then (up (read_member (word_at xs 18) 18)) λ m.
    and_then (read_own_rule k xs m) λ u.
    and_then (ends h m.role (refers_to h m)) λ _.
    Ok (record { time = h.time; member = m; rule = u })

abbrev pub read_registration : List ℕ → Header → Result FrameV FrameFault
read_registration xs h =
    and_then (up (read_applicant (word_at xs 18) 18)) λ a.
    and_then (ends h a.role (nat_lt 0 h.reference)) λ _.
    Ok (module_registration h.time h.reference a)

-- a book that has the member
abbrev pub read_you_are_in : List ℕ → Header → Result FrameV FrameFault
read_you_are_in xs h =
    and_then (up (read_member (word_at xs 18) 18)) λ m.
    and_then (up (read_book xs 22)) λ b.
    checked ((has_word b (member_word m), wrong_at 18) ∷ [])
    (and_then (ends h 0 (nat_lt 0 h.reference)) λ _.
    Ok (you_are_in h.time h.reference m b))

-- from the registrar the role octet is 0, from a module its role
abbrev pub read_named : Bool → List ℕ → Header → Result Member FrameFault
read_named registrar xs h =
    and_then (up (read_member (word_at xs 18) 18)) λ m.
    and_then (ends h (cond registrar 0 m.role) (refers_to h m)) λ _.
    Ok m

-- the frame that is made of a record
abbrev pub made_of : {A : Type 0} → (A → FrameV) → Result A FrameFault → Result FrameV FrameFault
made_of make r = and_then r λ x. Ok (make x)

abbrev pub read_status : List ℕ → Header → Result FrameV FrameFault
read_status xs h =
    and_then (up (read_book xs 18)) λ b.
    and_then (ends h 0 (h.reference == 0)) λ _.
    Ok (cell_status h.time b)

abbrev pub by_type : MetaType → List ℕ → Header → Result FrameV FrameFault
by_type Rejection xs h = read_rejection xs h
by_type YouAreDead xs h = read_dead h
by_type Invite xs h = made_of invite (read_change Invitation xs h)
by_type Disinvite xs h = made_of disinvite (read_change Invitation xs h)
by_type ModuleRegistration xs h = read_registration xs h
by_type YouAreIn xs h = read_you_are_in xs h
by_type IAmStarting xs h = made_of (i_am_starting h.time) (read_named true xs h)
by_type Subscribe xs h = made_of subscribe (read_change Subscription xs h)
by_type Unsubscribe xs h = made_of unsubscribe (read_change Subscription xs h)
by_type IAmStopping xs h = made_of (i_am_stopping h.time) (read_named false xs h)
by_type CellStatus xs h = read_status xs h

abbrev pub read_meta : List ℕ → Result FrameV FrameFault
read_meta xs = and_then (read_header xs) λ h. by_type h.kind xs h

-- the words in turn, then the length of the content
abbrev pub message_in : List ℕ → MessageKind → ℕ → ℕ → ℕ → Result FrameV FrameFault
message_in xs k a b c =
    and_then (up (read_head k a b c)) λ h.
    checked ((nat_le (content_length b) 1000 && (length xs == 12 + content_length b), ContentLength) ∷ [])
    (Ok (message h (drop 12 xs)))

abbrev pub message_by : List ℕ → Option MessageKind → Result FrameV FrameFault
message_by xs None = Err UnknownKind
message_by xs (Some k) = message_in xs k (word_at xs 0) (word_at xs 4) (word_at xs 8)

abbrev pub read_message : List ℕ → Result FrameV FrameFault
read_message xs = checked ((nat_le 12 (length xs), Short) ∷ []) (message_by xs (message_kind (kind_of (word_at xs 0))))

-- a first octet of 128 or more begins a message
unfoldable pub read : List ℕ → Result FrameV FrameFault
read xs = cond (nat_lt (octet xs 0) 128) (read_meta xs) (read_message xs)
