-- What a sound run carries is a book, and there is room for it.
use Rattle.std.proofs.Common.{sym, arith, rules}
use Rattle.words.proofs.Sound.{sound_is_book}
use Rattle.book.proofs.Keeping.{sound_as}
use Rattle.book.proofs.Reading.{read_sound}
use Rattle.book.proofs.book.Book.fill.Goals as goal

pub fill-requires : goal.fill-requires
fill-requires c =
    let xs = c.args.run.now.octets.now in
    let h = sym c.if-not-is_sound.ensures.sound in
    (omega arith, ((sound_is_book xs h).members, (read_sound xs h).numbers))

pub fill-requires-2 : goal.fill-requires-2
fill-requires-2 c =
    let xs = c.args.run.now.octets.now in
    let h = sym c.if-not-is_sound.ensures.sound in
    (omega arith, ((sound_is_book xs h).rules, (read_sound xs h).rising))

pub invariant_of-self : goal.invariant_of-self
invariant_of-self c =
    let s = sound_as _ _ _ _ c.fill.ensures c.fill-2.ensures (read_sound c.args.run.now.octets.now (sym c.if-not-is_sound.ensures.sound)) in
    search (rules, s)
