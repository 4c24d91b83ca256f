-- The law of recipients, by its proof.
use Rattle.book.proofs.Recipients.{recipients_law}
use Rattle.book.proofs.laws.recipients_law.Goals as goal

pub returns : goal.returns
returns c = recipients_law
