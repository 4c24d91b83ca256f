-- What the contracts of this crate cite.
pub mod Faults
pub mod Checks
pub mod Types
pub mod Names
pub mod Headers
pub mod Frames
pub mod Reads
pub mod Writes
pub mod Laws
