-- The run is one from a new space.
use Rattle.std.proofs.Common.{[], ◌∷◌, sym, refl, subst, arith}
use Rattle.wire.specs.Reads.{read}
use Rattle.rules.specs.Runs.{New}
use Rattle.shown.specs.Played.{start, opening}
use Rattle.shown.specs.Script.{entering, losing, in_vain, reporting, reading_it, sending_two, withdrawing, sending_more, starting_over, both_in, frame_lost, sent_to_none, reported, told_again, message_lost, withdrawn, standing_again, seat_taken}
use Rattle.shown.specs.Shown.{first, second, Reaches}
use Rattle.shown.proofs.Reaching.{Fair, at_first, reached_next}
use Rattle.shown.proofs.Written.{play_1, play_2, play_3, play_4, play_5, play_6, play_7, play_8, is_1, is_2, is_3, is_4, is_5, is_6, is_7, is_8}

new_start : New start
new_start = record {
  nothing_waits = λ p. refl;
  no_book = refl;
  none_given = refl;
  first = 1;
  positive = omega arith;
  fits = omega arith;
  all_out = λ p. refl;
}

-- the numbers given
fair_1 : Fair opening entering
unfolding read
fair_1 = (tt, (λ g. at_first [] 0 refl, (tt, (tt, (λ g. at_first (first ∷ []) 1 refl, (tt, tt))))))

fair_2 : Fair play_1 losing
unfolding read
fair_2 = (tt, (tt, (λ g. tt, (tt, tt))))

fair_3 : Fair play_2 in_vain
fair_3 = (tt, tt)

fair_4 : Fair play_3 reporting
fair_4 = (tt, tt)

fair_5 : Fair play_4 reading_it
fair_5 = (tt, tt)

fair_6 : Fair play_5 sending_two
fair_6 = (tt, (tt, (tt, (tt, (tt, tt)))))

fair_7 : Fair play_6 withdrawing
unfolding read
fair_7 = (tt, (λ g. tt, tt))

fair_8 : Fair play_7 sending_more
unfolding read
fair_8 = (tt, (tt, (tt, (tt, (λ g. tt, (tt, tt))))))

fair_9 : Fair play_8 starting_over
unfolding read
fair_9 = (tt, (tt, (tt, (λ g. at_first (second ∷ []) 2 refl, tt))))

pub reached_1 : Reaches both_in
unfolding both_in
reached_1 = reached_next opening entering new_start fair_1

pub reached_2 : Reaches frame_lost
unfolding frame_lost
reached_2 = reached_next both_in losing reached_1 (subst (λ x. Fair x losing) (sym is_1) fair_2)

pub reached_3 : Reaches sent_to_none
unfolding sent_to_none
reached_3 = reached_next frame_lost in_vain reached_2 (subst (λ x. Fair x in_vain) (sym is_2) fair_3)

pub reached_4 : Reaches reported
unfolding reported
reached_4 = reached_next sent_to_none reporting reached_3 (subst (λ x. Fair x reporting) (sym is_3) fair_4)

pub reached_5 : Reaches told_again
unfolding told_again
reached_5 = reached_next reported reading_it reached_4 (subst (λ x. Fair x reading_it) (sym is_4) fair_5)

pub reached_6 : Reaches message_lost
unfolding message_lost
reached_6 = reached_next told_again sending_two reached_5 (subst (λ x. Fair x sending_two) (sym is_5) fair_6)

pub reached_7 : Reaches withdrawn
unfolding withdrawn
reached_7 = reached_next message_lost withdrawing reached_6 (subst (λ x. Fair x withdrawing) (sym is_6) fair_7)

pub reached_8 : Reaches standing_again
unfolding standing_again
reached_8 = reached_next withdrawn sending_more reached_7 (subst (λ x. Fair x sending_more) (sym is_7) fair_8)

pub reached_9 : Reaches seat_taken
unfolding seat_taken
reached_9 = reached_next standing_again starting_over reached_8 (subst (λ x. Fair x starting_over) (sym is_8) fair_9)
