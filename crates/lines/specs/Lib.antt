-- What the contracts of this crate cite.
pub mod Sizes
pub mod Cuts
pub mod Queues
pub mod PortLists
pub mod Rules
pub mod Examples
pub mod RulesLemmas
pub mod PortListsLemmas
pub mod Pieces
