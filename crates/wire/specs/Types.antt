-- The eleven types of Meta-AMS frame: numbers and supplementary lengths. Assumes nothing.
use Rattle.std.specs.Prelude.{ℕ, ◌%◌, Bool, cond, ◌&&◌, List, [], ◌∷◌, Some, None, Option, ◌==◌, nat_le}
use Rattle.words.specs.Ranges.{within}
use Rattle.wire.specs.declared.meta_type.MetaType.{MetaType}
use Rattle.wire.specs.declared.meta_type.MetaType.TheVariants.{Rejection, YouAreDead, Invite, Disinvite, ModuleRegistration, YouAreIn, IAmStarting, Subscribe, Unsubscribe, IAmStopping, CellStatus}

abbrev pub type_number : MetaType → ℕ
type_number Rejection = 2
type_number YouAreDead = 3
type_number Invite = 8
type_number Disinvite = 9
type_number ModuleRegistration = 19
type_number YouAreIn = 20
type_number IAmStarting = 21
type_number Subscribe = 24
type_number Unsubscribe = 25
type_number IAmStopping = 26
type_number CellStatus = 28

abbrev pub all_types : List MetaType
all_types =
    Rejection ∷ YouAreDead ∷ Invite ∷ Disinvite ∷ ModuleRegistration ∷ YouAreIn ∷ IAmStarting ∷ Subscribe ∷ Unsubscribe ∷ IAmStopping ∷ CellStatus ∷ []

-- the type of this number among those listed
abbrev pub numbered : List MetaType → ℕ → Option MetaType
numbered [] n = None
numbered (k ∷ ks) n = cond (n == type_number k) (Some k) (numbered ks n)

abbrev pub type_of : ℕ → Option MetaType
type_of n = numbered all_types n

-- whether supplementary data may have this many octets: its words, or a book of at most 215 words
abbrev pub length_right : MetaType → ℕ → Bool
length_right Rejection n = n == 4
length_right YouAreDead n = n == 0
length_right Invite n = n == 8
length_right Disinvite n = n == 8
length_right ModuleRegistration n = n == 4
length_right YouAreIn n = within 4 864 n && n % 4 == 0
length_right IAmStarting n = n == 4
length_right Subscribe n = n == 8
length_right Unsubscribe n = n == 8
length_right IAmStopping n = n == 4
length_right CellStatus n = nat_le n 860 && n % 4 == 0
