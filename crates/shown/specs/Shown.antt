-- What the run shows: that what is promised of all runs is promised of something. Assumes nothing.
--     first, second, third     the members: port 4, port 2, and port 4 again
--     rule                     the rule that port 4 asks for
--     copy_of body             the octets of the copy of a message that is put at port 4
--     all_read p x             what the end at p is once it has read the registrar's frames that wait
--     Reaches x                x is a run from a new space
--     Behind x                 an end in step whose view is not the book, until it has read what waits
--     LeftBehind x            a lost frame does leave a view behind: the end is in, nothing waits for it, and it
--                              publishes to nobody
--     PutRight x y            a full report mends that, once it is read
--     Undisturbed x            a lost message leaves no view behind
--     FarBehind x             an end in step three frames behind, of whose view the book has kept one member
--     FourFates x             four copies, one handed over, one lost, one turned aside and one waiting
--     OffAndOn u v x y       a rule that stood, was withdrawn, stood again, and ended with its member's membership
use Rattle.std.specs.Prelude.{◌≡◌, ℕ, true, false, List, [], ◌∷◌, map}
use Rattle.words.specs.declared.member.Member.{Member}
use Rattle.words.specs.declared.message_kind.MessageKind.TheVariants.{Published}
use Rattle.words.specs.declared.rule.Rule.{Rule}
use Rattle.words.specs.declared.rule_kind.RuleKind.TheVariants.{Subscription}
use Rattle.words.specs.Heads.{head_of}
use Rattle.words.specs.Records.{member_of, rule_of}
use Rattle.wire.specs.Frames.{message}
use Rattle.wire.specs.Writes.{write}
use Rattle.rules.specs.declared.answer.Answer.TheVariants.{Masks}
use Rattle.rules.specs.declared.standing.Standing.TheVariants.{In}
use Rattle.rules.specs.Listings.{listing, standing}
use Rattle.rules.specs.Meanings.{meaning}
use Rattle.rules.specs.Ends.{Place, place, reading}
use Rattle.rules.specs.Calls.{event}
use Rattle.rules.specs.Runs.{Reached}
use Rattle.rules.specs.Promises.{makers, clean, official, Gives, InStep}
use Rattle.rules.specs.Upheld.{Stood}
use Rattle.rules.specs.Copies.{puts, handed_over, turned_aside, lost_ones, put_count, waiting_copies, Account}
use Rattle.shown.specs.Played.{Play, given_answers, said_answers}
use Rattle.shown.specs.Script.{publishes, one, two, three, four, whole_run, both_in, frame_lost, sent_to_none, reported, told_again, message_lost, withdrawn, standing_again, seat_taken}

abbrev pub first : Member
first = member_of 1 5 4

abbrev pub second : Member
second = member_of 2 9 2

abbrev pub third : Member
third = member_of 3 5 4

abbrev pub rule : Rule
rule = rule_of Subscription 1 0 7

abbrev pub copy_of : List ℕ → List ℕ
copy_of body = write (message (head_of Published 1 9 7 2 3 0) body)

abbrev pub all_read : ℕ → Play → Place
all_read p x =
    reading p (place (x.state.ends p).standing (x.state.ends p).view)
    (map meaning (official (makers p x.history) (x.state.line p)))

abbrev pub Reaches : Play → Type 0
Reaches x = Reached x.state x.history

pub record Behind (x : Play) : Type 0 where
  pub in_step : InStep 4 1 5 x.history x.state
  pub view : (x.state.ends 4).view ≡ listing (first ∷ []) []
  pub book : x.state.book ≡ listing (first ∷ second ∷ []) []
  pub differs : (x.state.ends 4).view ≡ x.state.book → ⊥
  pub agrees : all_read 4 x ≡ place (In 1 5) x.state.book

pub record LeftBehind (x : Play) : Type 0 where
  pub inside : (x.state.ends 2).standing ≡ In 2 9
  pub gives : Gives x.state.book 2 2
  pub unclean : clean 2 x.history ≡ false
  pub nothing_waits : x.state.line 2 ≡ []
  pub view : (x.state.ends 2).view ≡ listing (first ∷ second ∷ []) []
  pub book : x.state.book ≡ listing (first ∷ second ∷ []) (rule ∷ [])
  pub differs : all_read 2 x ≡ place (In 2 9) x.state.book → ⊥
  pub unheard : (event x.state (publishes one) 0).answer ≡ Masks 0 0

-- x has the report waiting, y has read it
pub record PutRight (x y : Play) : Type 0 where
  pub in_step : InStep 2 2 9 x.history x.state
  pub differs : (x.state.ends 2).view ≡ x.state.book → ⊥
  pub view : (y.state.ends 2).view ≡ y.state.book
  pub book : y.state.book ≡ listing (first ∷ second ∷ []) (rule ∷ [])
  pub heard : (event y.state (publishes one) 0).answer ≡ Masks 16 0

pub record Undisturbed (x : Play) : Type 0 where
  pub lost : lost_ones 4 x.history ≡ copy_of two ∷ []
  pub in_step : InStep 4 1 5 x.history x.state
  pub view : (x.state.ends 4).view ≡ x.state.book

pub record FarBehind (x : Play) : Type 0 where
  pub in_step : InStep 2 2 9 x.history x.state
  pub waiting : makers 2 x.history ≡ true ∷ true ∷ true ∷ []
  pub view : (x.state.ends 2).view ≡ listing (first ∷ second ∷ []) (rule ∷ [])
  pub book : x.state.book ≡ listing (second ∷ third ∷ []) []
  pub agrees : all_read 2 x ≡ place (In 2 9) x.state.book

pub record FourFates (x : Play) : Type 0 where
  pub put : puts 4 x.history ≡ map copy_of (one ∷ two ∷ three ∷ four ∷ [])
  pub over : handed_over 4 x.history ≡ copy_of one ∷ []
  pub gone : lost_ones 4 x.history ≡ copy_of two ∷ []
  pub aside : turned_aside 4 x.history ≡ copy_of three ∷ []
  pub still : waiting_copies x.state 4 ≡ copy_of four ∷ []
  pub count : put_count 4 x.history ≡ 4
  pub account : Account 4 x.history x.state

pub record OffAndOn (u v x y : Play) : Type 0 where
  pub stands : standing rule u.state.book ≡ true
  pub withdrawn : standing rule v.state.book ≡ false
  pub again : standing rule x.state.book ≡ true
  pub ended : standing rule y.state.book ≡ false
  -- the member at port 4 has a new number, and the old one is no member
  pub seated : y.state.book ≡ listing (second ∷ third ∷ []) []
  -- the same, read off the calls
  pub stood : Stood rule u.history
  pub stood_not : Stood rule v.history → ⊥
  pub stood_again : Stood rule x.history
  pub stood_no_more : Stood rule y.history → ⊥

abbrev pub AllReached : Type 0
AllReached =
    Reaches both_in
    × Reaches frame_lost
    × Reaches sent_to_none
    × Reaches reported
    × Reaches told_again
    × Reaches message_lost
    × Reaches withdrawn
    × Reaches standing_again
    × Reaches seat_taken

abbrev pub AllAnswered : Type 0
AllAnswered = given_answers seat_taken.history ≡ said_answers whole_run

abbrev pub ViewBehind : Type 0
ViewBehind = Behind both_in

abbrev pub ViewLeftBehind : Type 0
ViewLeftBehind = LeftBehind frame_lost

abbrev pub ViewPutRight : Type 0
ViewPutRight = PutRight reported told_again

abbrev pub ViewUndisturbed : Type 0
ViewUndisturbed = Undisturbed message_lost

abbrev pub ViewFarBehind : Type 0
ViewFarBehind = FarBehind seat_taken

abbrev pub CopiesOfEachFate : Type 0
CopiesOfEachFate = FourFates standing_again

abbrev pub RuleOffAndOn : Type 0
RuleOffAndOn = OffAndOn message_lost withdrawn standing_again seat_taken
