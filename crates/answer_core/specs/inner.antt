-- Definitions for the inside of the crate: types, private contracts and proofs name them, and no public contract reaches them.
pub mod Answers
pub mod Associations
pub mod Codes
pub mod Conflicts
pub mod Formats
pub mod GtinUses
pub mod Numbers
pub mod Places
pub mod Units
pub mod Written
