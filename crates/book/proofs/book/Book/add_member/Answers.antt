-- A book in which a member has taken its seat is a book.
use Rattle.std.proofs.Common.{ap, is_ok, ◌≡◌, ◌∙◌, true, sym, rules}
use Rattle.std.specs.List.{filter}
use Rattle.words.specs.Records.{valid_member}
use Rattle.book.specs.Lists.{rules_of}
use Rattle.book.specs.Sound.{owned}
use Rattle.book.proofs.Keeping.{sound_as, sound_of}
use Rattle.book.proofs.Seating.{member_seated, seat_done}
use Rattle.book.proofs.book.Book.add_member.Goals as goal

pub invariant_of-self : goal.invariant_of-self
invariant_of-self c =
    let b = c.args.self.now in
    let v : valid_member c.args.member ≡ true = sym c.if-not-is_valid.ensures in
    let d = seat_done c.args.member _ _ _ _ _ c.insert.result (sound_of b) v c.retain.ensures.items (c.retain-2.ensures.items ∙ ap (λ ms. filter (owned ms) (rules_of b)) c.as_slice.ensures) c.insert.ensures.answer c.insert.ensures.items in
    let s = sound_as _ _ _ _ d.0 d.1 (member_seated c.args.member _ _ (sound_of b) v) in
    search (rules, s)

pub returns : goal.returns
returns c =
    let b = c.args.self.now in
    let v : valid_member c.args.member ≡ true = sym c.if-not-is_valid.ensures in
    let d = seat_done c.args.member _ _ _ _ _ c.insert.result (sound_of b) v c.retain.ensures.items (c.retain-2.ensures.items ∙ ap (λ ms. filter (owned ms) (rules_of b)) c.as_slice.ensures) c.insert.ensures.answer c.insert.ensures.items in
    let o : is_ok c.insert.result ≡ true = ap is_ok d.2 in
    search (rules, d, o, v)
