-- What the contracts of this crate cite.
pub mod Lines
pub mod Offers
pub mod Laws
