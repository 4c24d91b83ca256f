-- The names of types in plain words. Assumes nothing.
--     type_name k        of a type of Meta-AMS frame
use Rattle.std.specs.Prelude.{ℕ, List, codes}
use Rattle.wire.specs.declared.meta_type.MetaType.{MetaType}
use Rattle.wire.specs.declared.meta_type.MetaType.TheVariants.{Rejection, YouAreDead, Invite, Disinvite, ModuleRegistration, YouAreIn, IAmStarting, Subscribe, Unsubscribe, IAmStopping, CellStatus}

abbrev pub type_name : MetaType → List ℕ
type_name Rejection = codes "rejection"
type_name YouAreDead = codes "you_are_dead"
type_name Invite = codes "invite"
type_name Disinvite = codes "disinvite"
type_name ModuleRegistration = codes "module_registration"
type_name YouAreIn = codes "you_are_in"
type_name IAmStarting = codes "I_am_starting"
type_name Subscribe = codes "subscribe"
type_name Unsubscribe = codes "unsubscribe"
type_name IAmStopping = codes "I_am_stopping"
type_name CellStatus = codes "cell_status"
