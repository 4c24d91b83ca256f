-- The laws of members and of changes, by their proofs.
use Rattle.book.proofs.Whole.{changes_law, standing_law}
use Rattle.book.proofs.laws.book_laws.Goals as goal

pub returns : goal.returns
returns c = record { standing = standing_law; changes = changes_law }
