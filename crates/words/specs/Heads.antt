-- The three words of a message: whom it is for and about what, who sends it, its context. Assumes nothing.
--     head_of ..             the head of these
--     receiver_word h        kind, receiver's number, sender's role, subject
--     sender_word h n        13, sender's number, priority (4 bits), length n of the content (16 bits)
--     context_word h         14, context (28 bits)
--     read_head k a b c      the head in three words, or a fault at the octet of the first wrong one
use Rattle.std.specs.Prelude.{ℕ, ◌+◌, ◌*◌, ◌/◌, ◌%◌, Bool, cond, ◌&&◌, Some, None, Ok, Err, Option, Result, ◌==◌}
use Rattle.words.specs.Ranges.{within, head_valid}
use Rattle.words.specs.Words.{word, kind_of, number_of, role_of, tail_of}
use Rattle.words.specs.declared.fault.WordFault.{WordFault}
use Rattle.words.specs.declared.message_kind.MessageKind.{MessageKind}
use Rattle.words.specs.declared.message_kind.MessageKind.TheVariants.{Published, Announced, Private}
use Rattle.words.specs.declared.head.MessageHead.{MessageHead}

abbrev pub head_of : MessageKind → ℕ → ℕ → ℕ → ℕ → ℕ → ℕ → MessageHead
head_of k receiver r s sender p x = record {
  kind = k;
  receiver = receiver;
  role = r;
  subject = s;
  sender = sender;
  priority = p;
  context = x;
}

abbrev pub valid_head : MessageHead → Bool
valid_head h = head_valid h.receiver h.role h.subject h.sender h.priority h.context

abbrev pub kind_number : MessageKind → ℕ
kind_number Published = 8
kind_number Announced = 9
kind_number Private = 10

abbrev pub message_kind : ℕ → Option MessageKind
message_kind k = cond (k == 8) (Some Published) (cond (k == 9) (Some Announced) (cond (k == 10) (Some Private) None))

abbrev pub receiver_word : MessageHead → ℕ
receiver_word h = word (kind_number h.kind) h.receiver h.role h.subject

abbrev pub sender_word : MessageHead → ℕ → ℕ
sender_word h n = 13 * 268435456 + h.sender * 1048576 + h.priority * 65536 + n

abbrev pub context_of : ℕ → ℕ
context_of w = w % 268435456

abbrev pub context_word : MessageHead → ℕ
context_word h = 14 * 268435456 + context_of h.context

abbrev pub priority_of : ℕ → ℕ
priority_of w = w / 65536 % 16

abbrev pub content_length : ℕ → ℕ
content_length w = w % 65536

abbrev pub receiver_stands : ℕ → Bool
receiver_stands w = within 1 255 (number_of w) && (within 1 255 (role_of w) && within 1 4095 (tail_of w))

abbrev pub sender_stands : ℕ → Bool
sender_stands w = kind_of w == 13 && (within 1 255 (number_of w) && within 1 15 (priority_of w))

abbrev pub context_stands : ℕ → Bool
context_stands w = kind_of w == 14

-- x where three words stand, else a fault at the octet of the first that does not
abbrev pub in_turn : {A : Type 0} → Bool → Bool → Bool → A → Result A WordFault
in_turn p q r x = cond p (cond q (cond r (Ok x) (Err (record { place = 8 }))) (Err (record { place = 4 }))) (Err (record { place = 0 }))

abbrev pub read_head : MessageKind → ℕ → ℕ → ℕ → Result MessageHead WordFault
read_head k a b c =
    in_turn (receiver_stands a) (sender_stands b) (context_stands c)
    (head_of k (number_of a) (role_of a) (tail_of a) (number_of b) (priority_of b) (context_of c))
