-- What is said of a frame or of a fault, in plain words. Assumes nothing.
--     explained r         the line for what reading answered
--     answer cs           the line for a line of a dump; none for one that is passed over
use Rattle.std.specs.Prelude.{ℕ, Bool, cond, ◌&&◌, ◌||◌, List, [], ◌++◌, length, Some, None, Ok, Err, codes, decimal, Option, Result, ◌==◌, slice_index}
use Rattle.words.specs.declared.member.Member.{Member}
use Rattle.words.specs.declared.rule.Rule.{Rule}
use Rattle.words.specs.declared.head.MessageHead.{MessageHead}
use Rattle.words.specs.Names.{message_name, rule_name}
use Rattle.words.specs.Records.{rejected_type, cause_number}
use Rattle.words.specs.Books.{members_before, rules_before, words_in}
use Rattle.wire.specs.declared.header.Header.{Header}
use Rattle.wire.specs.declared.frame.RuleChange.{RuleChange}
use Rattle.wire.specs.declared.fault.FrameFault.{FrameFault}
use Rattle.wire.specs.Faults.{fault_of, layer_number}
use Rattle.wire.specs.Frames.{FrameV, rejection, you_are_dead, invite, disinvite, module_registration, you_are_in, i_am_starting, subscribe, unsubscribe, i_am_stopping, cell_status, message}
use Rattle.wire.specs.Names.{type_name}
use Rattle.wire.specs.Reads.{read}
use Rattle.wire.specs.Writes.{header_of}
use Rattle.explain.specs.Hex.{hexed, unhex}

abbrev pub header_text : Header → List ℕ
header_text h =
    type_name h.kind
    ++ (codes " role " ++ (decimal h.role ++ (codes " reference " ++ (decimal h.reference ++ (codes " time " ++ decimal h.time)))))

-- a module that has no number yet shows number 0
abbrev pub member_text : ℕ → ℕ → ℕ → List ℕ
member_text n r p = codes " member " ++ (decimal n ++ (codes " " ++ (decimal r ++ (codes " " ++ decimal p))))

abbrev pub named_text : Member → List ℕ
named_text m = member_text m.number m.role m.port

abbrev pub rule_text : Rule → List ℕ
rule_text u =
    codes " " ++ (rule_name u.kind ++ (codes " " ++ (decimal u.number ++ (codes " " ++ (decimal u.role ++ (codes " " ++ decimal u.subject))))))

abbrev pub reason_text : ℕ → ℕ → List ℕ
reason_text rejected cause = codes " reason " ++ (decimal rejected ++ (codes " " ++ decimal cause))

abbrev pub tally_text : ℕ → ℕ → List ℕ
tally_text m r = codes " book " ++ (decimal m ++ (codes " members " ++ (decimal r ++ codes " rules")))

abbrev pub book_text : List ℕ → List ℕ
book_text b = tally_text (members_before b (words_in b)) (rules_before b (words_in b))

abbrev pub change_text : RuleChange → List ℕ
change_text c = named_text c.member ++ rule_text c.rule

abbrev pub content_text : List ℕ → List ℕ
content_text b = cond (length b == 0) (codes "-") (hexed b)

abbrev pub sending_text : MessageHead → List ℕ
sending_text h =
    message_name h.kind
    ++ (codes " to " ++ (decimal h.receiver ++ (codes " from " ++ (decimal h.sender ++ (codes " role " ++ decimal h.role)))))

abbrev pub subject_text : MessageHead → List ℕ
subject_text h =
    codes " subject " ++ (decimal h.subject ++ (codes " priority " ++ (decimal h.priority ++ (codes " context " ++ decimal h.context))))

abbrev pub message_text : MessageHead → List ℕ → List ℕ
message_text h b = sending_text h ++ (subject_text h ++ (codes " content " ++ content_text b))

-- what follows the header, by type; of a message everything
abbrev pub parts_text : FrameV → List ℕ
parts_text (rejection t f y) = reason_text (rejected_type y.rejected) (cause_number y.cause)
parts_text (you_are_dead t m) = []
parts_text (invite c) = change_text c
parts_text (disinvite c) = change_text c
parts_text (module_registration t q a) = member_text 0 a.role a.port
parts_text (you_are_in t q m b) = named_text m ++ book_text b
parts_text (i_am_starting t m) = named_text m
parts_text (subscribe c) = change_text c
parts_text (unsubscribe c) = change_text c
parts_text (i_am_stopping t m) = named_text m
parts_text (cell_status t b) = book_text b
parts_text (message h b) = message_text h b

abbrev pub headed_text : Option Header → List ℕ → List ℕ
headed_text (Some h) xs = header_text h ++ xs
headed_text None xs = xs

abbrev pub frame_text : FrameV → List ℕ
frame_text v = headed_text (header_of v) (parts_text v)

abbrev pub fault_text : ℕ → ℕ → ℕ → List ℕ
fault_text number place layer = codes "fault " ++ (decimal number ++ (codes " at " ++ (decimal place ++ (codes " layer " ++ decimal layer))))

abbrev pub explained : Result FrameV FrameFault → List ℕ
explained (Ok v) = frame_text v
explained (Err e) = fault_text (fault_of e).number (fault_of e).place (layer_number (fault_of e).layer)

abbrev pub spelled : Option (List ℕ) → List ℕ
spelled (Some xs) = explained (read xs)
spelled None = codes "not hex"

-- an empty line, with or without a carriage return, and one that starts with #, are passed over
abbrev pub passed_over : List ℕ → Bool
passed_over cs = length cs == 0 || (slice_index cs 0 == 35 || (length cs == 1 && slice_index cs 0 == 13))

abbrev pub answer : List ℕ → Option (List ℕ)
answer cs = cond (passed_over cs) None (Some (spelled (unhex cs)))
