-- The laws of the book, by their proofs.
use Rattle.words.proofs.Sound.{sound_is_book}
use Rattle.words.proofs.Whole.{book_is_sound}
use Rattle.words.proofs.laws.book_laws.Goals as goal

pub returns : goal.returns
returns c = record { sound = sound_is_book; book = book_is_sound }
