-- Each turn writes one word more.
use Rattle.std.proofs.Common.{◌*◌, length, ap, ◌∙◌, rules}
use Rattle.std.proofs.lemmas.List.{length_push}
use Rattle.std.proofs.lemmas.Iterator.{YieldsList-from_map, YieldsList-from_slice}
use Rattle.std.proofs.lemmas.Iterator.Consumers.{YieldsList-at, YieldsList-from_chain, YieldsList-from_enumerate}
use borrow.Author.Tests.{tests}
use Rattle.words.specs.Records.{member_word, rule_word}
use Rattle.book.specs.Octets.{book_words}
use Rattle.book.proofs.Buffered.{words_all, words_end, words_more, word_turn}
use Rattle.book.proofs.book.octets.put_words.Goals as goal

pub loop-k-preserved : goal.loop-k-preserved
loop-k-preserved c =
    let ms = c.args.members.now in
    let us = c.args.rules.now in
    let turn = word_turn (book_words ms us) c.loop-k.yielded _ c.loop-k.yielded_by _ _ c.next.ensures.steps c.in-Some.k c.in-Some.w c.in-Some.is (YieldsList-at c.into_iter-k-iterator.ensures.into_iter_gives (YieldsList-from_enumerate (YieldsList-at c.enumerate-k-items.ensures.source (YieldsList-from_chain
    (YieldsList-at c.chain.ensures.first (YieldsList-from_map _ member_word (YieldsList-at c.map-of_members.ensures.source (YieldsList-from_slice ms cc)) c.map-of_members.ensures.closure (λ x r q k. search (rules, tests))))
    (YieldsList-at c.chain.ensures.second (YieldsList-from_map _ rule_word (YieldsList-at c.map-of_rules.ensures.source (YieldsList-from_slice us cc)) c.map-of_rules.ensures.closure (λ x r q k. search (rules, tests))))
    c.chain.ensures.first_done c.chain.ensures.second_done)) c.enumerate-k-items.ensures.count)) in
    let more = words_more c.args.buffer.now c.loop-k.buffer (book_words ms us) (length c.loop-k.yielded) _ c.in-Some.w turn.0 (ap (λ z. 4 * z) turn.1) turn.2 c.loop-k.invariant in
    rw (length_push c.loop-k.yielded (c.in-Some.k, c.in-Some.w)) (c.put_word.ensures ∙ more)

pub returns : goal.returns
returns c =
    let ms = c.args.members.now in
    let us = c.args.rules.now in
    let end = words_end (book_words ms us) c.loop-k.yielded _ c.loop-k.yielded_by _ _ c.next.ensures.steps c.in-None.is (YieldsList-at c.into_iter-k-iterator.ensures.into_iter_gives (YieldsList-from_enumerate (YieldsList-at c.enumerate-k-items.ensures.source (YieldsList-from_chain
    (YieldsList-at c.chain.ensures.first (YieldsList-from_map _ member_word (YieldsList-at c.map-of_members.ensures.source (YieldsList-from_slice ms cc)) c.map-of_members.ensures.closure (λ x r q k. search (rules, tests))))
    (YieldsList-at c.chain.ensures.second (YieldsList-from_map _ rule_word (YieldsList-at c.map-of_rules.ensures.source (YieldsList-from_slice us cc)) c.map-of_rules.ensures.closure (λ x r q k. search (rules, tests))))
    c.chain.ensures.first_done c.chain.ensures.second_done)) c.enumerate-k-items.ensures.count)) in
    words_all c.args.buffer.now _ (book_words ms us) (length c.loop-k.yielded) end c.loop-k.invariant
