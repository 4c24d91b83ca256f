-- The laws of the book, from their parts. Assumes nothing.
use Rattle.book.specs.Laws.{ChangesLaw, OrderLaw, StandingLaw, WordsBack, WordsForth}
use Rattle.book.specs.Octets.{book_words}
use Rattle.book.proofs.Membership.{in_stands, stands_in, stands_some}
use Rattle.book.proofs.Orders.{member_words_order, rule_words_order}
use Rattle.book.proofs.Reading.{has_so, octets_back, read_sound}
use Rattle.book.proofs.Taken.{sound_empty, sound_kept}
use Rattle.book.proofs.Writing.{members_again, octet_small, octets_long, rules_again, words_ascend, written_has, written_sound}

pub words_back : WordsBack
words_back ms us s = record {
  sound = written_sound ms us s;
  members = members_again ms us s;
  rules = rules_again ms us s;
  long = octets_long ms us;
  small = octet_small (book_words ms us);
  rising = words_ascend ms us s;
  has = written_has ms us s;
}

pub words_forth : WordsForth
words_forth xs h = record { sound = read_sound xs h; octets = λ o. octets_back xs o h; has = λ m v. has_so xs m h v }

pub standing_law : StandingLaw
standing_law m ms r = record { some = stands_some m ms r; within = stands_in m ms r; stands = in_stands m ms r }

pub changes_law : ChangesLaw
changes_law = record { empty = sound_empty; keeps = sound_kept }

pub order_law : OrderLaw
order_law = record { members = member_words_order; rules = rule_words_order }
