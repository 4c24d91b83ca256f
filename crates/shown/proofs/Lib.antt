-- Lemmas of this crate.
pub mod Spaces
pub mod Reaching
pub mod Written
pub mod Arrivals
pub mod Facts
