-- What the contracts of this crate cite.
pub mod Ordered
pub mod Items
pub mod InOrder
pub mod Entries
pub mod Digits
