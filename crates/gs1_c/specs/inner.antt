-- Definitions for the inside of the crate: types, private contracts and proofs name them, and no public contract reaches them.
pub mod Lines
pub mod Shown
pub mod Status
pub mod Titles
