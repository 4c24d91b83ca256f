-- What the contracts of this crate cite.
pub mod Plain
pub mod Names
pub mod Entries
pub mod Apart
