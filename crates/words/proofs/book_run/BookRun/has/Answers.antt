-- All words are searched for the member's.
use Rattle.std.proofs.Common.{◌==◌, ◌∙◌, rules, tests}
use Rattle.std.proofs.lemmas.Iterator.Search.{any_from_yields_List}
use Rattle.words.specs.Books.{words_in}
use Rattle.words.specs.Records.{member_word}
use Rattle.words.proofs.Listed.{listed, some_listed}
use Rattle.words.proofs.book_run.BookRun.has.Goals as goal

pub returns : goal.returns
returns c =
    let xs = c.args.self.now.octets.now in
    any_from_yields_List (λ w. w == member_word c.args.member.now) c.any.new.self _ c.any.result c.any.ensures.ran (listed xs (cc)) (λ x b q k. search (rules, tests)) ∙ some_listed (λ w. w == member_word c.args.member.now) xs (words_in xs)
