-- One run of thirty calls, each with its answer, and nine points on its way. Assumes nothing.
-- Port 4, of role 5, subscribes to subject 7; port 2, of role 9, publishes on it.
--     registers p r ..      the calls, at time 0 and with buffers of 1,012 octets
--     entering ..           the parts of the run, in their order
--     both_in               both ends are in, and port 4 has yet to read that port 2 is
--     frame_lost            port 4 has subscribed, and the frame that tells port 2 of it is lost
--     sent_to_none          port 2 has published, to nobody
--     reported              a full report waits at port 2
--     told_again            port 2 has read it
--     message_lost          a message was handed over at port 4, and a second one lost
--     withdrawn             port 4 has unsubscribed
--     standing_again        a third message was turned aside, port 4 has subscribed again, and a fourth message waits
--     seat_taken            port 4 went without notice, for its frame was lost, and has registered again
use Rattle.std.specs.Prelude.{ℕ, List, [], ◌∷◌, ◌++◌}
use Rattle.wire.specs.declared.meta_type.MetaType.TheVariants.{YouAreIn, IAmStarting, Subscribe as SubscribeFrame, Unsubscribe as UnsubscribeFrame, CellStatus}
use Rattle.book.specs.declared.audience.Audience.TheVariants.{Published}
use Rattle.rules.specs.declared.answer.Answer.TheVariants.{Done, Query, Masks, Served, Received, Lost}
use Rattle.rules.specs.declared.lost.Lost.TheVariants.{Message, Other}
use Rattle.rules.specs.declared.received.Received.TheVariants.{HandedOver, TurnedAside, Read}
use Rattle.rules.specs.declared.request.Request.TheVariants.{Subscribe, Unsubscribe}
use Rattle.rules.specs.declared.served.Served.TheVariants.{Done as Changed}
use Rattle.rules.specs.Calls.{Call, register, unregister, request, tell, receive, report, lose}
use Rattle.shown.specs.Played.{Move, ◌answers◌, serves, admits, Play, opening, played}

abbrev pub registers : ℕ → ℕ → Call
registers p r = register p r 0 1012

abbrev pub leaves : ℕ → Call
leaves p = unregister p 0 1012

abbrev pub receives : ℕ → Call
receives p = receive p 1012

abbrev pub reports_to : ℕ → Call
reports_to p = report p 0 1012

-- the oldest frame
abbrev pub loses : ℕ → Call
loses p = lose p 1

-- port 4, from senders of every role, on subject 7
abbrev pub subscribes : Call
subscribes = request Subscribe 4 0 7 0 1012

abbrev pub unsubscribes : Call
unsubscribes = request Unsubscribe 4 0 7 0 1012

-- port 2, on subject 7 with priority 3 and context 0
abbrev pub publishes : List ℕ → Call
publishes body = tell Published 2 7 3 0 body 1012

-- four contents
abbrev pub one : List ℕ
one = 65 ∷ 66 ∷ []

abbrev pub two : List ℕ
two = 67 ∷ []

abbrev pub three : List ℕ
three = 68 ∷ 69 ∷ 70 ∷ []

abbrev pub four : List ℕ
four = []

abbrev pub entering : List Move
entering =
    registers 4 5 answers Query 1
    ∷ admits 1
    ∷ receives 4 answers Received (Read YouAreIn)
    ∷ registers 2 9 answers Query 1
    ∷ admits 2
    ∷ receives 2 answers Received (Read YouAreIn)
    ∷ []

abbrev pub losing : List Move
losing =
    receives 4 answers Received (Read IAmStarting)
    ∷ subscribes answers Done
    ∷ serves answers Served (Changed 0)
    ∷ loses 2 answers Lost Other
    ∷ []

abbrev pub in_vain : List Move
in_vain = publishes one answers Masks 0 0 ∷ []

abbrev pub reporting : List Move
reporting = reports_to 2 answers Done ∷ []

abbrev pub reading_it : List Move
reading_it = receives 2 answers Received (Read CellStatus) ∷ []

-- a mask of 16 is port 4
abbrev pub sending_two : List Move
sending_two =
    publishes one answers Masks 16 0
    ∷ receives 4 answers Received (Read SubscribeFrame)
    ∷ receives 4 answers Received (HandedOver 2)
    ∷ publishes two answers Masks 16 0
    ∷ loses 4 answers Lost Message
    ∷ []

abbrev pub withdrawing : List Move
withdrawing = unsubscribes answers Done ∷ serves answers Served (Changed 0) ∷ []

-- port 2 has not read that the rule was withdrawn
abbrev pub sending_more : List Move
sending_more =
    publishes three answers Masks 16 0
    ∷ receives 4 answers Received (Read UnsubscribeFrame)
    ∷ receives 4 answers Received (TurnedAside 2)
    ∷ subscribes answers Done
    ∷ serves answers Served (Changed 0)
    ∷ publishes four answers Masks 16 0
    ∷ []

abbrev pub starting_over : List Move
starting_over =
    leaves 4 answers Done ∷ loses 0 answers Lost Other ∷ registers 4 5 answers Query 2 ∷ admits 3 ∷ []

abbrev pub whole_run : List Move
whole_run =
    entering ++ losing ++ in_vain ++ reporting ++ reading_it ++ sending_two ++ withdrawing ++ sending_more ++ starting_over

unfoldable pub both_in : Play
both_in = played opening entering

unfoldable pub frame_lost : Play
frame_lost = played both_in losing

unfoldable pub sent_to_none : Play
sent_to_none = played frame_lost in_vain

unfoldable pub reported : Play
reported = played sent_to_none reporting

unfoldable pub told_again : Play
told_again = played reported reading_it

unfoldable pub message_lost : Play
message_lost = played told_again sending_two

unfoldable pub withdrawn : Play
withdrawn = played message_lost withdrawing

unfoldable pub standing_again : Play
standing_again = played withdrawn sending_more

unfoldable pub seat_taken : Play
seat_taken = played standing_again starting_over
