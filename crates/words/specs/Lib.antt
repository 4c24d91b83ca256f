-- What the contracts of this crate cite.
pub mod Ranges
pub mod Words
pub mod Records
pub mod Heads
pub mod Books
pub mod Runs
pub mod Laws
pub mod Trips
pub mod Keys
pub mod Orders
pub mod Names
