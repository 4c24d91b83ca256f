-- The nine points of the run, written out.
use Rattle.std.proofs.Common.{◌≡◌, ℕ, List, [], ◌∷◌, refl}
use Rattle.words.specs.declared.member.Member.{Member}
use Rattle.wire.specs.declared.frame.RuleChange.{RuleChange}
use Rattle.wire.specs.Frames.{you_are_in, i_am_starting, subscribe, unsubscribe, cell_status}
use Rattle.wire.specs.Reads.{read}
use Rattle.wire.specs.Writes.{write}
use Rattle.rules.specs.declared.standing.Standing.TheVariants.{Asked, In}
use Rattle.rules.specs.Listings.{Listing, listing, blank, octets_of}
use Rattle.rules.specs.Calls.{State, end}
use Rattle.shown.specs.Played.{Play, opening, played}
use Rattle.shown.specs.Script.{four, entering, losing, in_vain, reporting, reading_it, sending_two, withdrawing, sending_more, starting_over, both_in, frame_lost, sent_to_none, reported, told_again, message_lost, withdrawn, standing_again, seat_taken}
use Rattle.shown.specs.Shown.{first, second, third, rule, copy_of}
use Rattle.shown.proofs.Spaces.{space, by_ports, by_parts}
use Rattle.shown.proofs.Reaching.{next}

-- the books of the run
abbrev pub bare : Listing
bare = listing (first ∷ second ∷ []) []

abbrev pub ruled : Listing
ruled = listing (first ∷ second ∷ []) (rule ∷ [])

abbrev pub anew : Listing
anew = listing (second ∷ third ∷ []) []

-- the frames that wait
abbrev pub starts : Member → List ℕ
starts m = write (i_am_starting 0 m)

abbrev pub change : RuleChange
change = record { time = 0; member = first; rule = rule }

abbrev pub asks : List ℕ
asks = write (subscribe change)

abbrev pub takes_back : List ℕ
takes_back = write (unsubscribe change)

abbrev pub tells_all : List ℕ
tells_all = write (cell_status 0 (octets_of ruled))

abbrev pub welcome : List ℕ
welcome = write (you_are_in 0 2 third (octets_of anew))

-- both_in
abbrev pub state_1 : State
state_1 = space [] [] (starts second ∷ []) bare 2 (end (In 2 9) bare 2) (end (In 1 5) (listing (first ∷ []) []) 2)

abbrev pub play_1 : Play
play_1 = record { state = state_1; history = (played opening entering).history }

becomes_1 : (played opening entering).state ≡ state_1
unfolding read
becomes_1 =
    by_parts refl (by_ports refl refl refl (λ q x y z. simp (x, y, z))) refl refl (by_ports refl refl refl (λ q x y z. simp (y, z)))

pub is_1 : both_in ≡ play_1
unfolding both_in
is_1 = next opening opening entering state_1 refl becomes_1

-- frame_lost
abbrev pub state_2 : State
state_2 = space [] [] (asks ∷ []) ruled 2 (end (In 2 9) bare 2) (end (In 1 5) bare 2)

abbrev pub play_2 : Play
play_2 = record { state = state_2; history = (played play_1 losing).history }

becomes_2 : (played play_1 losing).state ≡ state_2
unfolding read
becomes_2 =
    by_parts refl (by_ports refl refl refl (λ q x y z. simp (x, y, z))) refl refl (by_ports refl refl refl (λ q x y z. simp (y, z)))

pub is_2 : frame_lost ≡ play_2
unfolding frame_lost
is_2 = next both_in play_1 losing state_2 is_1 becomes_2

-- sent_to_none
abbrev pub state_3 : State
state_3 = space [] [] (asks ∷ []) ruled 2 (end (In 2 9) bare 2) (end (In 1 5) bare 2)

abbrev pub play_3 : Play
play_3 = record { state = state_3; history = (played play_2 in_vain).history }

becomes_3 : (played play_2 in_vain).state ≡ state_3
unfolding read
becomes_3 =
    by_parts refl (by_ports refl refl refl (λ q x y z. simp (x, y, z))) refl refl (by_ports refl refl refl (λ q x y z. simp (y, z)))

pub is_3 : sent_to_none ≡ play_3
unfolding sent_to_none
is_3 = next frame_lost play_2 in_vain state_3 is_2 becomes_3

-- reported
abbrev pub state_4 : State
state_4 = space [] (tells_all ∷ []) (asks ∷ []) ruled 2 (end (In 2 9) bare 2) (end (In 1 5) bare 2)

abbrev pub play_4 : Play
play_4 = record { state = state_4; history = (played play_3 reporting).history }

becomes_4 : (played play_3 reporting).state ≡ state_4
unfolding read
becomes_4 =
    by_parts refl (by_ports refl refl refl (λ q x y z. simp (x, y, z))) refl refl (by_ports refl refl refl (λ q x y z. simp (y, z)))

pub is_4 : reported ≡ play_4
unfolding reported
is_4 = next sent_to_none play_3 reporting state_4 is_3 becomes_4

-- told_again
abbrev pub state_5 : State
state_5 = space [] [] (asks ∷ []) ruled 2 (end (In 2 9) ruled 2) (end (In 1 5) bare 2)

abbrev pub play_5 : Play
play_5 = record { state = state_5; history = (played play_4 reading_it).history }

becomes_5 : (played play_4 reading_it).state ≡ state_5
unfolding read
becomes_5 =
    by_parts refl (by_ports refl refl refl (λ q x y z. simp (x, y, z))) refl refl (by_ports refl refl refl (λ q x y z. simp (y, z)))

pub is_5 : told_again ≡ play_5
unfolding told_again
is_5 = next reported play_4 reading_it state_5 is_4 becomes_5

-- message_lost
abbrev pub state_6 : State
state_6 = space [] [] [] ruled 2 (end (In 2 9) ruled 2) (end (In 1 5) ruled 2)

abbrev pub play_6 : Play
play_6 = record { state = state_6; history = (played play_5 sending_two).history }

becomes_6 : (played play_5 sending_two).state ≡ state_6
unfolding read
becomes_6 =
    by_parts refl (by_ports refl refl refl (λ q x y z. simp (x, y, z))) refl refl (by_ports refl refl refl (λ q x y z. simp (y, z)))

pub is_6 : message_lost ≡ play_6
unfolding message_lost
is_6 = next told_again play_5 sending_two state_6 is_5 becomes_6

-- withdrawn
abbrev pub state_7 : State
state_7 = space [] (takes_back ∷ []) (takes_back ∷ []) bare 2 (end (In 2 9) ruled 2) (end (In 1 5) ruled 2)

abbrev pub play_7 : Play
play_7 = record { state = state_7; history = (played play_6 withdrawing).history }

becomes_7 : (played play_6 withdrawing).state ≡ state_7
unfolding read
becomes_7 =
    by_parts refl (by_ports refl refl refl (λ q x y z. simp (x, y, z))) refl refl (by_ports refl refl refl (λ q x y z. simp (y, z)))

pub is_7 : withdrawn ≡ play_7
unfolding withdrawn
is_7 = next message_lost play_6 withdrawing state_7 is_6 becomes_7

-- standing_again
abbrev pub state_8 : State
state_8 = space [] (takes_back ∷ asks ∷ []) (asks ∷ copy_of four ∷ []) ruled 2 (end (In 2 9) ruled 2) (end (In 1 5) bare 2)

abbrev pub play_8 : Play
play_8 = record { state = state_8; history = (played play_7 sending_more).history }

becomes_8 : (played play_7 sending_more).state ≡ state_8
unfolding read
becomes_8 =
    by_parts refl (by_ports refl refl refl (λ q x y z. simp (x, y, z))) refl refl (by_ports refl refl refl (λ q x y z. simp (y, z)))

pub is_8 : standing_again ≡ play_8
unfolding standing_again
is_8 = next withdrawn play_7 sending_more state_8 is_7 becomes_8

-- seat_taken
abbrev pub state_9 : State
state_9 = space [] (takes_back ∷ asks ∷ starts third ∷ []) (asks ∷ copy_of four ∷ welcome ∷ []) anew 3 (end (In 2 9) ruled 2) (end (Asked 5 2) blank 3)

abbrev pub play_9 : Play
play_9 = record { state = state_9; history = (played play_8 starting_over).history }

becomes_9 : (played play_8 starting_over).state ≡ state_9
unfolding read
becomes_9 =
    by_parts refl (by_ports refl refl refl (λ q x y z. simp (x, y, z))) refl refl (by_ports refl refl refl (λ q x y z. simp (y, z)))

pub is_9 : seat_taken ≡ play_9
unfolding seat_taken
is_9 = next standing_again play_8 starting_over state_9 is_8 becomes_9
