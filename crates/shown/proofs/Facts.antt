-- What the run shows, computed at the states that are written out.
use Rattle.std.proofs.Common.{◌≡◌, ℕ, true, false, length, sym, refl, ap, ◌∙◌, subst, arith}
use Rattle.std.proofs.lemmas.Bool.{both_ways}
use Rattle.wire.specs.Reads.{read}
use Rattle.rules.specs.declared.standing.Standing.TheVariants.{In}
use Rattle.rules.specs.Listings.{standing}
use Rattle.rules.specs.Ends.{place}
use Rattle.rules.specs.Promises.{InStep, ViewsAgree}
use Rattle.rules.specs.Upheld.{RulesStand}
use Rattle.rules.specs.Copies.{Account, CopiesAddUp}
use Rattle.shown.specs.Played.{Play, given_answers, said_answers}
use Rattle.shown.specs.Script.{whole_run, both_in, told_again, message_lost, withdrawn, standing_again, seat_taken}
use Rattle.shown.specs.Shown.{first, second, rule, all_read, Reaches, Behind, LeftBehind, PutRight, Undisturbed, FarBehind, FourFates, AllAnswered, ViewBehind, ViewLeftBehind, ViewPutRight, ViewUndisturbed, ViewFarBehind, CopiesOfEachFate, RuleOffAndOn}
use Rattle.shown.proofs.Arrivals.{reached_1, reached_6, reached_7, reached_8, reached_9}
use Rattle.shown.proofs.Written.{play_1, play_2, play_4, play_5, play_6, play_7, play_8, play_9, is_1, is_2, is_4, is_5, is_6, is_7, is_8, is_9}

answered_9 : given_answers play_9.history ≡ said_answers whole_run
unfolding read
answered_9 = refl

pub all_answered : AllAnswered
all_answered = ap (λ x. given_answers x.history) is_9 ∙ answered_9

-- an end in step agrees with the book at a written state too
agreeing : ViewsAgree → (x y : Play) → x ≡ y → Reaches x → (p n r : ℕ) → InStep p n r y.history y.state
    → all_read p y ≡ place (In n r) y.state.book
agreeing k x y e h p n r i =
    subst (λ z. all_read p z ≡ place (In n r) z.state.book) e
    (k x.history x.state h p n r (subst (λ z. InStep p n r z.history z.state) (sym e) i))

in_step_1 : InStep 4 1 5 play_1.history play_1.state
unfolding read
in_step_1 = record { inside = refl; gives = record { who = first; listed = refl; there = refl; numbered = refl }; whole = refl }

differs_1 : (play_1.state.ends 4).view ≡ play_1.state.book → ⊥
differs_1 e = let z : ◌≡◌ {A = ℕ} 1 2 = ap (λ l. length l.members) e in omega arith

behind_1 : all_read 4 play_1 ≡ place (In 1 5) play_1.state.book → Behind play_1
behind_1 e = record { in_step = in_step_1; view = refl; book = refl; differs = differs_1; agrees = e }

pub behind : ViewsAgree → ViewBehind
behind k = subst Behind (sym is_1) (behind_1 (agreeing k both_in play_1 is_1 reached_1 4 1 5 in_step_1))

left_behind_2 : LeftBehind play_2
unfolding read
left_behind_2 = record {
  inside = refl;
  gives = record { who = second; listed = refl; there = refl; numbered = refl };
  unclean = refl;
  nothing_waits = refl;
  view = refl;
  book = refl;
  differs = λ e. let z : ◌≡◌ {A = ℕ} 0 1 = ap (λ l. length l.view.rules) e in omega arith;
  unheard = refl;
}

pub left_behind : ViewLeftBehind
left_behind = subst LeftBehind (sym is_2) left_behind_2

put_right_5 : PutRight play_4 play_5
unfolding read
put_right_5 = record {
  in_step = record { inside = refl; gives = record { who = second; listed = refl; there = refl; numbered = refl }; whole = refl };
  differs = λ e. let z : ◌≡◌ {A = ℕ} 0 1 = ap (λ l. length l.rules) e in omega arith;
  view = refl;
  book = refl;
  heard = refl;
}

pub put_right : ViewPutRight
put_right = subst (λ x. PutRight x told_again) (sym is_4) (subst (PutRight play_4) (sym is_5) put_right_5)

undisturbed_6 : Undisturbed play_6
unfolding read
undisturbed_6 = record {
  lost = refl;
  in_step = record { inside = refl; gives = record { who = first; listed = refl; there = refl; numbered = refl }; whole = refl };
  view = refl;
}

pub undisturbed : ViewUndisturbed
undisturbed = subst Undisturbed (sym is_6) undisturbed_6

in_step_9 : InStep 2 2 9 play_9.history play_9.state
unfolding read
in_step_9 = record { inside = refl; gives = record { who = second; listed = refl; there = refl; numbered = refl }; whole = refl }

far_behind_9 : all_read 2 play_9 ≡ place (In 2 9) play_9.state.book → FarBehind play_9
unfolding read
far_behind_9 e = record { in_step = in_step_9; waiting = refl; view = refl; book = refl; agrees = e }

pub far_behind : ViewsAgree → ViewFarBehind
far_behind k = subst FarBehind (sym is_9) (far_behind_9 (agreeing k seat_taken play_9 is_9 reached_9 2 2 9 in_step_9))

fates_8 : Account 4 play_8.history play_8.state → FourFates play_8
unfolding read
fates_8 a = record { put = refl; over = refl; gone = refl; aside = refl; still = refl; count = refl; account = a }

pub four_fates : CopiesAddUp → CopiesOfEachFate
four_fates k =
    subst FourFates (sym is_8)
    (fates_8
    (subst (λ x. Account 4 x.history x.state) is_8 (k standing_again.history standing_again.state reached_8 4)))

stands_at : (x y : Play) → x ≡ y → standing rule x.state.book ≡ standing rule y.state.book
stands_at x y e = ap (λ z. standing rule z.state.book) e

pub off_and_on : RulesStand → RuleOffAndOn
off_and_on k = record {
  stands = on_6;
  withdrawn = off_7;
  again = on_8;
  ended = off_9;
  seated = ap (λ x. x.state.book) is_9;
  stood = (k message_lost.history message_lost.state reached_6).entered rule on_6;
  stood_not = λ h. both_ways false refl (sym off_7 ∙ (k withdrawn.history withdrawn.state reached_7).stands rule h);
  stood_again = (k standing_again.history standing_again.state reached_8).entered rule on_8;
  stood_no_more = λ h. both_ways false refl (sym off_9 ∙ (k seat_taken.history seat_taken.state reached_9).stands rule h);
}
  where
    on_6 : standing rule message_lost.state.book ≡ true
    on_6 = stands_at message_lost play_6 is_6

    off_7 : standing rule withdrawn.state.book ≡ false
    off_7 = stands_at withdrawn play_7 is_7

    on_8 : standing rule standing_again.state.book ≡ true
    on_8 = stands_at standing_again play_8 is_8

    off_9 : standing rule seat_taken.state.book ≡ false
    off_9 = stands_at seat_taken play_9 is_9
