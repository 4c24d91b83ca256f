-- The numbers of answers and refusals. Assumes nothing.
--     refusal_number r    the number of a refusal; all lie above the frame, at place 0
--     served_code x       serve's codes 1 to 6, and the mask of ports at which a frame did not fit
--     served_fault x      the fault of code 5: its number, place and layer
--     received_code x     receive's codes 1 to 6, and their values:
--     received_sender x   the sender's number, with codes 1 and 2
--     received_type x     the number of the frame's type, with codes 3 and 6
--     received_reason x   the reason, with code 4
--     received_fault x    the fault, with code 5
--     lost_code x         lose's codes 1 and 2
--     lost_by o           what was lost, told by its first octet
use Rattle.std.specs.Prelude.{ℕ, cond, Some, None, Option, nat_lt}
use Rattle.words.specs.declared.reason.Reason.{Reason}
use Rattle.wire.specs.declared.fault.FaultCode.{FaultCode}
use Rattle.wire.specs.declared.fault.Layer.TheVariants.{Above}
use Rattle.wire.specs.Faults.{code, fault_of}
use Rattle.wire.specs.Types.{type_number}
use Rattle.rules.specs.declared.refusal.Refusal.{Refusal}
use Rattle.rules.specs.declared.refusal.Refusal.TheVariants.{ShortBuffer, BadPort, OutOfRange, NotIn, AlreadyIn, QueriesUsedUp, NoSuchMember, NotInvited, Full, NothingWaiting}
use Rattle.rules.specs.declared.served.Served.{Served}
use Rattle.rules.specs.declared.served.Served.TheVariants.{Done, Unchanged, Rejected, Unknown, Unreadable, SetAside}
use Rattle.rules.specs.declared.received.Received.{Received}
use Rattle.rules.specs.declared.received.Received.TheVariants.{HandedOver, TurnedAside, Read, Rejected as WasRejected, Unreadable as NoFrame, SetAside as LeftAside}
use Rattle.rules.specs.declared.lost.Lost.{Lost}
use Rattle.rules.specs.declared.lost.Lost.TheVariants.{Message, Other}

abbrev pub refusal_number : Refusal → ℕ
refusal_number ShortBuffer = 23
refusal_number BadPort = 11
refusal_number OutOfRange = 12
refusal_number NotIn = 13
refusal_number AlreadyIn = 14
refusal_number QueriesUsedUp = 15
refusal_number NoSuchMember = 16
refusal_number NotInvited = 17
refusal_number Full = 21
refusal_number NothingWaiting = 22

abbrev pub refusal_code : Refusal → FaultCode
refusal_code r = code (refusal_number r) 0 Above

abbrev pub served_code : Served → ℕ
served_code (Done m) = 1
served_code Unchanged = 2
served_code (Rejected m) = 3
served_code (Unknown m) = 4
served_code (Unreadable f) = 5
served_code SetAside = 6

abbrev pub served_missed : Served → ℕ
served_missed (Done m) = m
served_missed Unchanged = 0
served_missed (Rejected m) = m
served_missed (Unknown m) = m
served_missed (Unreadable f) = 0
served_missed SetAside = 0

abbrev pub received_code : Received → ℕ
received_code (HandedOver n) = 1
received_code (TurnedAside n) = 2
received_code (Read k) = 3
received_code (WasRejected y) = 4
received_code (NoFrame f) = 5
received_code (LeftAside k) = 6

abbrev pub served_fault : Served → Option FaultCode
served_fault (Done m) = None
served_fault Unchanged = None
served_fault (Rejected m) = None
served_fault (Unknown m) = None
served_fault (Unreadable f) = Some (fault_of f)
served_fault SetAside = None

abbrev pub received_sender : Received → Option ℕ
received_sender (HandedOver n) = Some n
received_sender (TurnedAside n) = Some n
received_sender (Read k) = None
received_sender (WasRejected y) = None
received_sender (NoFrame f) = None
received_sender (LeftAside k) = None

abbrev pub received_type : Received → Option ℕ
received_type (HandedOver n) = None
received_type (TurnedAside n) = None
received_type (Read k) = Some (type_number k)
received_type (WasRejected y) = None
received_type (NoFrame f) = None
received_type (LeftAside k) = Some (type_number k)

abbrev pub received_reason : Received → Option Reason
received_reason (HandedOver n) = None
received_reason (TurnedAside n) = None
received_reason (Read k) = None
received_reason (WasRejected y) = Some y
received_reason (NoFrame f) = None
received_reason (LeftAside k) = None

abbrev pub received_fault : Received → Option FaultCode
received_fault (HandedOver n) = None
received_fault (TurnedAside n) = None
received_fault (Read k) = None
received_fault (WasRejected y) = None
received_fault (NoFrame f) = Some (fault_of f)
received_fault (LeftAside k) = None

abbrev pub lost_code : Lost → ℕ
lost_code Message = 1
lost_code Other = 2

-- a first octet of 128 or more begins a message
abbrev pub lost_by : ℕ → Lost
lost_by o = cond (nat_lt o 128) Other Message
