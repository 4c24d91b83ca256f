-- What the contracts of this crate cite.
pub mod Sound
pub mod Lists
pub mod Asked
pub mod Numbers
pub mod Matching
pub mod Seating
pub mod Laws
pub mod Changes
pub mod Octets
pub mod Buffers
