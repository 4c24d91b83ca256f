-- What the contracts of this crate cite.
pub mod Played
pub mod Script
pub mod Shown
