-- Lemmas of this crate.
pub mod Scans
