-- Lemmas of this crate.
pub mod Queues
