-- Lemmas of this crate.
pub mod Search
pub mod Listed
pub mod Books
pub mod Trips
pub mod Sound
pub mod Whole
