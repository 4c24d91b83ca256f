-- What the contracts of this crate, and of those above it, cite.
pub mod Codes
pub mod Listings
pub mod Meanings
pub mod Ends
pub mod Registrar
pub mod Puts
pub mod Calls
pub mod Runs
pub mod Promises
pub mod Upheld
pub mod Copies
pub mod Parts
pub mod Performed
