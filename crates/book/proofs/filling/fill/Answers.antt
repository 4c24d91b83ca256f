-- Each turn puts what one word more carries.
use Rattle.std.proofs.Common.{length}
use Rattle.std.proofs.lemmas.List.{length_push}
use Rattle.std.proofs.lemmas.Iterator.Consumers.{YieldsList-from_first}
use Rattle.words.specs.Books.{words_of}
use Rattle.words.specs.Runs.{words_left}
use Rattle.book.proofs.Filled.{filled_more, run_turn}
use Rattle.book.proofs.filling.fill.Goals as goal

pub loop-w-preserved : goal.loop-w-preserved
loop-w-preserved g c =
    let xs = c.args.run.now.octets.now in
    let turn = run_turn xs c.loop-w.yielded _ c.loop-w.yielded_by _ c.next.new.self c.next.ensures.steps (YieldsList-from_first (λ w. w) words_left (words_of xs) cc) c.in-Some.w c.in-Some.is in
    rw (length_push c.loop-w.yielded c.in-Some.w)
    (filled_more g.R.Key.Key.less g.R.Record.keyed g.R.InWord.carries g.R.InWord.within xs g.row.LIMIT (length c.loop-w.yielded) _ _ _ turn.0 c.requires.room c.requires.rising turn.1 c.loop-w.invariant c.put.ensures)
