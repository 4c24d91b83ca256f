-- What every call does and answers. Assumes nothing.
--     End                 a module end: what it is, its view, and its next query number
--     State               the fitting rule and what waits at the ports, the registrar's book and the number it gave
--                         last, and the ends by their ports
--     Call                the thirteen calls with their values; the length of each lent buffer stands last
--     Outcome             what a call does: the answer, from what became of the frames it puts; the frame it takes;
--                         the frames it puts; book, last number and ends then
--     X_checks, X_done    what the call X checks, in this order, and what it does if all of it holds
--     judged s cs o       o, or the refusal of the first check of cs that fails, which changes nothing
--     outcome s c n       what the call c does, n being the number that a served registration is given
--     Given s c n         n is that number
--     event s c n         the call with its answer, the frame it took and the frames it put
--     after s c n         the state after it
use Rattle.std.specs.Prelude.{◌≡◌, ℕ, suc, ◌-◌, Bool, true, false, cond, not, ◌&&◌, List, [], ◌∷◌, map, length, Some, None, Option, ◌==◌, nat_le, nat_lt, slice_index, slice_index_or}
use Rattle.words.specs.declared.member.Member.{Member}
use Rattle.words.specs.declared.message_kind.MessageKind.{MessageKind}
use Rattle.words.specs.declared.message_kind.MessageKind.TheVariants.{Published as PublishedKind, Announced as AnnouncedKind, Private as PrivateKind}
use Rattle.words.specs.declared.rule_kind.RuleKind.{RuleKind}
use Rattle.words.specs.declared.rule_kind.RuleKind.TheVariants.{Subscription, Invitation}
use Rattle.words.specs.Heads.{head_of}
use Rattle.words.specs.Ranges.{within}
use Rattle.words.specs.Records.{applicant_of, member_of, rule_of}
use Rattle.wire.specs.declared.frame.RuleChange.{RuleChange}
use Rattle.wire.specs.Frames.{FrameV, invite, disinvite, subscribe, unsubscribe, module_registration, i_am_stopping, cell_status, message}
use Rattle.wire.specs.Writes.{write, in_time}
use Rattle.book.specs.declared.audience.Audience.{Audience}
use Rattle.book.specs.declared.audience.Audience.TheVariants.{Published, Announced, Private}
use Rattle.words.specs.declared.module_id.ModuleId.{ModuleId}
use Rattle.book.specs.Matching.{receives, recipients, some}
use Rattle.book.specs.Sound.{holds}
use Rattle.line.specs.Lines.{Rule as Fitting, Waiting, admits, longest_frame, port_count, without}
use Rattle.rules.specs.declared.answer.Answer.{Answer}
use Rattle.rules.specs.declared.answer.Answer.TheVariants.{Refused, Done, Query, Masks, Served, Received, Lost}
use Rattle.rules.specs.declared.refusal.Refusal.{Refusal}
use Rattle.rules.specs.declared.refusal.Refusal.TheVariants.{ShortBuffer, BadPort, OutOfRange, NotIn, AlreadyIn, QueriesUsedUp, NoSuchMember, NotInvited, Full, NothingWaiting}
use Rattle.rules.specs.declared.request.Request.{Request}
use Rattle.rules.specs.declared.request.Request.TheVariants.{Subscribe, Unsubscribe, Invite, Disinvite}
use Rattle.rules.specs.declared.standing.Standing.{Standing}
use Rattle.rules.specs.declared.standing.Standing.TheVariants.{Out, Asked, In}
use Rattle.rules.specs.Codes.{lost_by}
use Rattle.rules.specs.Listings.{Listing, blank, octets_of, seated_at}
use Rattle.rules.specs.Meanings.{meaning}
use Rattle.rules.specs.Ends.{Place, reads, received}
use Rattle.rules.specs.Registrar.{Deed, Numbered, deed, served, booked, last_given, Sending, sending, dispatch}
use Rattle.rules.specs.Puts.{Put, offers, queued, reached_mask, missed_mask}

pub record End : Type 0 where
  pub standing : Standing
  pub view : Listing
  pub next : ℕ

abbrev pub end : Standing → Listing → ℕ → End
end s v q = record { standing = s; view = v; next = q }

pub record State : Type 0 where
  pub fitting : Fitting
  pub line : Waiting
  pub book : Listing
  pub last : ℕ
  pub ends : ℕ → End

-- ports, roles, subjects, times and the like as they are given; publish, announce and send by whom the message is for
pub data Call : Type 0 where
  register : (port role time build : ℕ) → Call
  unregister : (port time build : ℕ) → Call
  request : Request → (port role subject time build : ℕ) → Call
  tell : Audience → (port subject priority context : ℕ) → List ℕ → (build : ℕ) → Call
  receive : (port take : ℕ) → Call
  serve : (time take build : ℕ) → Call
  report : (port time build : ℕ) → Call
  lose : (port k : ℕ) → Call

-- the frame at this place of this port, 0 the oldest
pub record Taking : Type 0 where
  pub port : ℕ
  pub place : ℕ

pub record Outcome : Type 0 where
  pub answer : List Put → Answer
  pub takes : Option Taking
  pub sends : List Sending
  pub book : Listing
  pub last : ℕ
  pub ends : ℕ → End

abbrev pub refusing : State → Refusal → Outcome
refusing s r = record {
  answer = λ ps. Refused r;
  takes = None;
  sends = [];
  book = s.book;
  last = s.last;
  ends = s.ends;
}

abbrev pub judged : State → List (Bool × Refusal) → Outcome → Outcome
judged s [] o = o
judged s (c ∷ cs) o = cond c.0 (judged s cs o) (refusing s c.1)

-- the checks that many calls have
abbrev pub long_enough : ℕ → Bool × Refusal
long_enough n = (nat_le longest_frame n, ShortBuffer)

abbrev pub an_end : ℕ → Bool × Refusal
an_end p = (within 1 15 p, BadPort)

abbrev pub is_in : Standing → Bool
is_in Out = false
is_in (Asked r q) = false
is_in (In n r) = true

abbrev pub inside : State → ℕ → Bool × Refusal
inside s p = (is_in (s.ends p).standing, NotIn)

abbrev pub fits_at : State → ℕ → List ℕ → Bool × Refusal
fits_at s p o = (admits s.fitting s.line p (length o), Full)

-- something waits there
abbrev pub waits_at : State → ℕ → ℕ → Bool × Refusal
waits_at s p k = (nat_lt k (length (s.line p)), NothingWaiting)

abbrev pub at_end : (ℕ → End) → ℕ → End → ℕ → End
at_end ends p e q = cond (q == p) e (ends q)

-- the member that the end at port p is
abbrev pub member_by : ℕ → Standing → Member
member_by p Out = member_of 0 0 p
member_by p (Asked r q) = member_of 0 0 p
member_by p (In n r) = member_of n r p

abbrev pub self : State → ℕ → Member
self s p = member_by p (s.ends p).standing

-- a frame is put, and the ends are then so
abbrev pub putting : State → ℕ → FrameV → Answer → (ℕ → End) → Outcome
putting s p v a ends = record {
  answer = λ ps. a;
  takes = None;
  sends = sending p (write v) ∷ [];
  book = s.book;
  last = s.last;
  ends = ends;
}

-- requests go to the registrar's port
abbrev pub registrar_port : ℕ
registrar_port = 0

abbrev pub last_query : ℕ
last_query = 4294967295

abbrev pub registering : State → ℕ → ℕ → ℕ → FrameV
registering s p r t = module_registration t (s.ends p).next (applicant_of r p)

abbrev pub register_checks : State → ℕ → ℕ → ℕ → ℕ → List (Bool × Refusal)
register_checks s p r t b =
    long_enough b
    ∷ an_end p
    ∷ (within 1 255 r && in_time t, OutOfRange)
    ∷ (not (is_in (s.ends p).standing), AlreadyIn)
    ∷ (nat_le (s.ends p).next last_query, QueriesUsedUp)
    ∷ fits_at s registrar_port (write (registering s p r t))
    ∷ []

abbrev pub register_done : State → ℕ → ℕ → ℕ → Outcome
register_done s p r t =
    putting s registrar_port (registering s p r t) (Query (s.ends p).next)
    (at_end s.ends p (end (Asked r (s.ends p).next) blank (suc (s.ends p).next)))

abbrev pub stopping : State → ℕ → ℕ → FrameV
stopping s p t = i_am_stopping t (self s p)

abbrev pub unregister_checks : State → ℕ → ℕ → ℕ → List (Bool × Refusal)
unregister_checks s p t b =
    long_enough b ∷ an_end p ∷ (in_time t, OutOfRange) ∷ inside s p ∷ fits_at s registrar_port (write (stopping s p t)) ∷ []

abbrev pub unregister_done : State → ℕ → ℕ → Outcome
unregister_done s p t = putting s registrar_port (stopping s p t) Done (at_end s.ends p (end Out blank (s.ends p).next))

abbrev pub kind_asked : Request → RuleKind
kind_asked Subscribe = Subscription
kind_asked Unsubscribe = Subscription
kind_asked Invite = Invitation
kind_asked Disinvite = Invitation

abbrev pub request_frame : Request → RuleChange → FrameV
request_frame Subscribe c = subscribe c
request_frame Unsubscribe c = unsubscribe c
request_frame Invite c = invite c
request_frame Disinvite c = disinvite c

abbrev pub requesting : State → Request → ℕ → ℕ → ℕ → ℕ → FrameV
requesting s k p r x t =
    request_frame k (record { time = t; member = self s p; rule = rule_of (kind_asked k) (self s p).number r x })

abbrev pub request_checks : State → Request → ℕ → ℕ → ℕ → ℕ → ℕ → List (Bool × Refusal)
request_checks s k p r x t b =
    long_enough b
    ∷ an_end p
    ∷ (nat_le r 255 && (nat_le x 4095 && in_time t), OutOfRange)
    ∷ inside s p
    ∷ fits_at s registrar_port (write (requesting s k p r x t))
    ∷ []

-- the view does not change: the end hears of its own rule as every other member does
abbrev pub request_done : State → Request → ℕ → ℕ → ℕ → ℕ → Outcome
request_done s k p r x t = putting s registrar_port (requesting s k p r x t) Done s.ends

abbrev pub audience_right : Audience → Bool
audience_right Published = true
audience_right (Announced d) = nat_le d 255
audience_right (Private n) = within 1 255 n

abbrev pub kind_for : Audience → MessageKind
kind_for Published = PublishedKind
kind_for (Announced d) = AnnouncedKind
kind_for (Private n) = PrivateKind

-- a private message is for a member of the view, which has to invite it
abbrev pub known_to : Listing → Audience → Bool
known_to v Published = true
known_to v (Announced d) = true
known_to v (Private n) = holds n v.members

abbrev pub invited_by : Listing → Audience → ModuleId → ℕ → Bool
invited_by v Published f x = true
invited_by v (Announced d) f x = true
invited_by v (Private n) f x = some (receives v.rules (Private n) f x) v.members

abbrev pub sender : State → ℕ → ModuleId
sender s p = record { number = (self s p).number; role = (self s p).role }

abbrev pub copy_for : State → Audience → ℕ → ℕ → ℕ → ℕ → List ℕ → Member → FrameV
copy_for s a p x pr cx body m =
    message (head_of (kind_for a) m.number (self s p).role x (self s p).number pr cx) body

-- one copy for each member of the view that receives such a message
abbrev pub copies : State → Audience → ℕ → ℕ → ℕ → ℕ → List ℕ → List Sending
copies s a p x pr cx body =
    map (λ m. sending m.port (write (copy_for s a p x pr cx body m)))
    (recipients (s.ends p).view.members (s.ends p).view.rules a (sender s p) x)

abbrev pub tell_checks : State → Audience → ℕ → ℕ → ℕ → ℕ → List ℕ → ℕ → List (Bool × Refusal)
tell_checks s a p x pr cx body b =
    long_enough b
    ∷ an_end p
    ∷ (within 1 4095 x && (within 1 15 pr && (nat_le cx 268435455 && (nat_le (length body) 1000 && audience_right a))), OutOfRange)
    ∷ inside s p
    ∷ (known_to (s.ends p).view a, NoSuchMember)
    ∷ (invited_by (s.ends p).view a (sender s p) x, NotInvited)
    ∷ []

abbrev pub tell_done : State → Audience → ℕ → ℕ → ℕ → ℕ → List ℕ → Outcome
tell_done s a p x pr cx body = record {
  answer = λ ps. Masks (reached_mask ps) (missed_mask ps);
  takes = None;
  sends = copies s a p x pr cx body;
  book = s.book;
  last = s.last;
  ends = s.ends;
}

abbrev pub taking : ℕ → ℕ → Option Taking
taking p k = Some (record { port = p; place = k })

abbrev pub frame_at : State → ℕ → ℕ → List ℕ
frame_at s p k = slice_index_or (s.line p) k []

abbrev pub receive_checks : State → ℕ → ℕ → List (Bool × Refusal)
receive_checks s p b = long_enough b ∷ an_end p ∷ waits_at s p 0 ∷ []

abbrev pub read_by : State → ℕ → List ℕ → Place
read_by s p o = reads p (s.ends p).standing (s.ends p).view (meaning o)

abbrev pub receive_done : State → ℕ → Outcome
receive_done s p = record {
  answer = λ ps. Received (received p (s.ends p).standing (s.ends p).view (meaning (frame_at s p 0)));
  takes = taking p 0;
  sends = [];
  book = s.book;
  last = s.last;
  ends = at_end s.ends p (end (read_by s p (frame_at s p 0)).standing (read_by s p (frame_at s p 0)).view (s.ends p).next);
}

abbrev pub serve_checks : State → ℕ → ℕ → ℕ → List (Bool × Refusal)
serve_checks s t a b = long_enough a ∷ long_enough b ∷ (in_time t, OutOfRange) ∷ waits_at s registrar_port 0 ∷ []

abbrev pub deed_of : State → ℕ → ℕ → Deed
deed_of s t n = deed s.book t (meaning (frame_at s registrar_port 0)) n

abbrev pub serve_done : State → ℕ → ℕ → Outcome
serve_done s t n = record {
  answer = λ ps. Served (served s.book (meaning (frame_at s registrar_port 0)) (missed_mask ps));
  takes = taking registrar_port 0;
  sends = dispatch (deed_of s t n) t (frame_at s registrar_port 0);
  book = booked s.book (deed_of s t n);
  last = last_given s.last (deed_of s t n);
  ends = s.ends;
}

abbrev pub reporting : State → ℕ → FrameV
reporting s t = cell_status t (octets_of s.book)

abbrev pub report_checks : State → ℕ → ℕ → ℕ → List (Bool × Refusal)
report_checks s p t b =
    long_enough b
    ∷ an_end p
    ∷ (in_time t, OutOfRange)
    ∷ (seated_at p s.book, NoSuchMember)
    ∷ fits_at s p (write (reporting s t))
    ∷ []

abbrev pub report_done : State → ℕ → ℕ → Outcome
report_done s p t = putting s p (reporting s t) Done s.ends

-- the k-th frame, 1 the oldest
abbrev pub lose_checks : State → ℕ → ℕ → List (Bool × Refusal)
lose_checks s p k = (nat_lt p port_count, BadPort) ∷ (nat_lt 0 k && nat_le k (length (s.line p)), NothingWaiting) ∷ []

abbrev pub lose_done : State → ℕ → ℕ → Outcome
lose_done s p k = record {
  answer = λ ps. Lost (lost_by (slice_index (frame_at s p (k - 1)) 0));
  takes = taking p (k - 1);
  sends = [];
  book = s.book;
  last = s.last;
  ends = s.ends;
}

abbrev pub outcome : State → Call → ℕ → Outcome
outcome s (register p r t b) n = judged s (register_checks s p r t b) (register_done s p r t)
outcome s (unregister p t b) n = judged s (unregister_checks s p t b) (unregister_done s p t)
outcome s (request k p r x t b) n = judged s (request_checks s k p r x t b) (request_done s k p r x t)
outcome s (tell a p x pr cx body b) n = judged s (tell_checks s a p x pr cx body b) (tell_done s a p x pr cx body)
outcome s (receive p b) n = judged s (receive_checks s p b) (receive_done s p)
outcome s (serve t a b) n = judged s (serve_checks s t a b) (serve_done s t n)
outcome s (report p t b) n = judged s (report_checks s p t b) (report_done s p t)
outcome s (lose p k) n = judged s (lose_checks s p k) (lose_done s p k)

-- all checks hold
abbrev pub passed : List (Bool × Refusal) → Bool
passed [] = true
passed (c ∷ cs) = c.0 && passed cs

-- only a serve gives a number
abbrev pub Given : State → Call → ℕ → Type 0
Given s (register p r t b) n = Unit {0}
Given s (unregister p t b) n = Unit {0}
Given s (request k p r x t b) n = Unit {0}
Given s (tell a p x pr cx body b) n = Unit {0}
Given s (receive p b) n = Unit {0}
Given s (serve t a b) n =
    passed (serve_checks s t a b) ≡ true → Numbered s.last s.book (meaning (frame_at s registrar_port 0)) n
Given s (report p t b) n = Unit {0}
Given s (lose p k) n = Unit {0}

-- a frame taken: where it waited, and its octets
pub record Took : Type 0 where
  pub port : ℕ
  pub place : ℕ
  pub octets : List ℕ

abbrev pub took : State → Option Taking → Option Took
took s None = None
took s (Some x) = Some (record { port = x.port; place = x.place; octets = frame_at s x.port x.place })

abbrev pub line_less : Waiting → Option Taking → Waiting
line_less w None = w
line_less w (Some x) = without w x.port x.place

pub record Event : Type 0 where
  pub call : Call
  pub answer : Answer
  pub took : Option Took
  pub puts : List Put

abbrev pub puts_of : State → Outcome → List Put
puts_of s o = offers s.fitting (line_less s.line o.takes) o.sends

abbrev pub event_by : State → Call → Outcome → Event
event_by s c o = record { call = c; answer = o.answer (puts_of s o); took = took s o.takes; puts = puts_of s o }

abbrev pub state_by : State → Outcome → State
state_by s o = record {
  fitting = s.fitting;
  line = queued s.fitting (line_less s.line o.takes) o.sends;
  book = o.book;
  last = o.last;
  ends = o.ends;
}

abbrev pub event : State → Call → ℕ → Event
event s c n = event_by s c (outcome s c n)

abbrev pub after : State → Call → ℕ → State
after s c n = state_by s (outcome s c n)
