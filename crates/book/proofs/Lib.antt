-- Lemmas of this crate.
pub mod Orders
pub mod Keeping
pub mod Cycle
pub mod Ports
pub mod Seating
pub mod Recipients
pub mod Taken
pub mod Carried
pub mod Fields
pub mod Membership
pub mod Reading
pub mod Writing
pub mod Whole
pub mod Filled
pub mod Buffered
