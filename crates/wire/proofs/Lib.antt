-- Lemmas of this crate.
pub mod Reading
pub mod Framed
pub mod Digits
pub mod Inverts
pub mod Headed
pub mod Forth
pub mod Inverse
pub mod Both
