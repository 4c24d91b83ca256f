-- The octets of a frame, and what the writer answers. Assumes nothing.
--     header_of v           the header of a Meta-AMS frame, with its role and reference; a message has none
--     data_of v             what follows the header; of a message everything
--     write v               the octets of the frame v
--     carried v             whether a frame can carry the record v
--     write_answer n v      what the writer answers for a buffer of n octets
--     built r xs b          the buffer b after a writer of xs answered r
use Rattle.std.specs.Prelude.{ℕ, Bool, true, false, cond, ◌&&◌, List, [], ◌∷◌, ◌++◌, length, drop, Some, None, Ok, Err, Option, Result, ◌==◌, nat_le, nat_lt}
use Rattle.words.specs.declared.rule_kind.RuleKind.{RuleKind}
use Rattle.words.specs.declared.rule_kind.RuleKind.TheVariants.{Subscription, Invitation}
use Rattle.words.specs.declared.head.MessageHead.{MessageHead}
use Rattle.words.specs.Ranges.{within}
use Rattle.words.specs.Words.{word_octets, words_octets}
use Rattle.words.specs.Records.{valid_member, valid_applicant, valid_module, valid_rule, member_word, applicant_word, rule_word, reason_word, id_of, module_of}
use Rattle.words.specs.Heads.{valid_head, receiver_word, sender_word, context_word}
use Rattle.words.specs.Books.{book_sound, has_word}
use Rattle.wire.specs.declared.fault.WriteFault.{WriteFault}
use Rattle.wire.specs.declared.fault.WriteFault.TheVariants.{ShortBuffer, OutOfRange}
use Rattle.wire.specs.declared.header.Header.{Header}
use Rattle.wire.specs.declared.frame.RuleChange.{RuleChange}
use Rattle.wire.specs.declared.meta_type.MetaType.{MetaType}
use Rattle.wire.specs.declared.meta_type.MetaType.TheVariants.{Rejection, YouAreDead, Invite, Disinvite, ModuleRegistration, YouAreIn, IAmStarting, Subscribe, Unsubscribe, IAmStopping, CellStatus}
use Rattle.wire.specs.Headers.{header, header_octets}
use Rattle.wire.specs.Frames.{FrameV, rejection, you_are_dead, invite, disinvite, module_registration, you_are_in, i_am_starting, subscribe, unsubscribe, i_am_stopping, cell_status, message}

-- a member's own frame has its role and its Module ID
abbrev pub change_header : MetaType → RuleChange → Option Header
change_header k c = Some (header k c.member.role (id_of (module_of c.member)) c.time)

abbrev pub header_of : FrameV → Option Header
header_of (rejection t f y) = Some (header Rejection 0 f t)
header_of (you_are_dead t m) = Some (header YouAreDead 0 (id_of m) t)
header_of (invite c) = change_header Invite c
header_of (disinvite c) = change_header Disinvite c
header_of (module_registration t q a) = Some (header ModuleRegistration a.role q t)
header_of (you_are_in t q m b) = Some (header YouAreIn 0 q t)
header_of (i_am_starting t m) = Some (header IAmStarting 0 (id_of (module_of m)) t)
header_of (subscribe c) = change_header Subscribe c
header_of (unsubscribe c) = change_header Unsubscribe c
header_of (i_am_stopping t m) = Some (header IAmStopping m.role (id_of (module_of m)) t)
header_of (cell_status t b) = Some (header CellStatus 0 0 t)
header_of (message h b) = None

abbrev pub change_data : RuleChange → List ℕ
change_data c = words_octets (member_word c.member ∷ rule_word c.rule ∷ [])

abbrev pub message_data : MessageHead → List ℕ → List ℕ
message_data h b = words_octets (receiver_word h ∷ sender_word h (length b) ∷ context_word h ∷ []) ++ b

abbrev pub data_of : FrameV → List ℕ
data_of (rejection t f y) = word_octets (reason_word y) []
data_of (you_are_dead t m) = []
data_of (invite c) = change_data c
data_of (disinvite c) = change_data c
data_of (module_registration t q a) = word_octets (applicant_word a) []
data_of (you_are_in t q m b) = word_octets (member_word m) b
data_of (i_am_starting t m) = word_octets (member_word m) []
data_of (subscribe c) = change_data c
data_of (unsubscribe c) = change_data c
data_of (i_am_stopping t m) = word_octets (member_word m) []
data_of (cell_status t b) = b
data_of (message h b) = message_data h b

abbrev pub headed : Option Header → List ℕ → List ℕ
headed (Some h) xs = header_octets h (length xs) xs
headed None xs = xs

abbrev pub write : FrameV → List ℕ
write v = headed (header_of v) (data_of v)

-- a time tag of 40 bits
abbrev pub in_time : ℕ → Bool
in_time t = nat_le t 1099511627775

abbrev pub same_kind : RuleKind → RuleKind → Bool
same_kind Subscription Subscription = true
same_kind Subscription Invitation = false
same_kind Invitation Subscription = false
same_kind Invitation Invitation = true

-- the rule is of the type's kind and of the member's number
abbrev pub change_carried : RuleKind → RuleChange → Bool
change_carried k c =
    in_time c.time
    && (valid_member c.member
    && (valid_rule c.rule && (same_kind c.rule.kind k && c.rule.number == c.member.number)))

abbrev pub carried : FrameV → Bool
carried (rejection t f y) = in_time t && nat_le f 4294967295
carried (you_are_dead t m) = in_time t && valid_module m
carried (invite c) = change_carried Invitation c
carried (disinvite c) = change_carried Invitation c
carried (module_registration t q a) = in_time t && (within 1 4294967295 q && valid_applicant a)
carried (you_are_in t q m b) = in_time t && (within 1 4294967295 q && (valid_member m && (book_sound b && has_word b (member_word m))))
carried (i_am_starting t m) = in_time t && valid_member m
carried (subscribe c) = change_carried Subscription c
carried (unsubscribe c) = change_carried Subscription c
carried (i_am_stopping t m) = in_time t && valid_member m
carried (cell_status t b) = in_time t && book_sound b
carried (message h b) = valid_head h && nat_le (length b) 1000

abbrev pub write_answer : ℕ → FrameV → Result ℕ WriteFault
write_answer n v = cond (nat_lt n 1012) (Err ShortBuffer) (cond (carried v) (Ok (length (write v))) (Err OutOfRange))

abbrev pub built : Result ℕ WriteFault → List ℕ → List ℕ → List ℕ
built (Ok n) xs b = xs ++ drop n b
built (Err e) xs b = b
