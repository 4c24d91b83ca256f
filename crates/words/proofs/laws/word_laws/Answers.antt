-- The laws of words that are not found, by their proofs.
use Rattle.words.proofs.Trips.{member_trip, applicant_trip, head_trip}
use Rattle.words.proofs.laws.word_laws.Goals as goal

pub returns-clause-members : goal.returns-clause-members
returns-clause-members c = member_trip

pub returns-clause-applicants : goal.returns-clause-applicants
returns-clause-applicants c = applicant_trip

pub returns-clause-heads : goal.returns-clause-heads
returns-clause-heads c = head_trip
