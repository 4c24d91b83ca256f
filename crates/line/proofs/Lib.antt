-- Lemmas of this crate.
pub mod Admits
pub mod AtPorts
pub mod Fairness
pub mod Masks
pub mod Offers
pub mod Serving
