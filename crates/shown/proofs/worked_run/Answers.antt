-- The run, with what is promised of every run.
use Rattle.shown.proofs.Arrivals.{reached_1, reached_2, reached_3, reached_4, reached_5, reached_6, reached_7, reached_8, reached_9}
use Rattle.shown.proofs.Facts.{all_answered, behind, left_behind, put_right, undisturbed, far_behind, four_fates, off_and_on}
use Rattle.shown.proofs.worked_run.Goals as goal

pub returns : goal.returns
returns c = record {
  reached = (reached_1, reached_2, reached_3, reached_4, reached_5, reached_6, reached_7, reached_8, reached_9);
  answered = all_answered;
  behind = behind c.promises.ensures.views;
  lost = left_behind;
  mended = put_right;
  undisturbed = undisturbed;
  far_behind = far_behind c.promises.ensures.views;
  fates = four_fates c.promises.ensures.copies;
  rules = off_and_on c.promises.ensures.rules;
}
