-- Definitions for the inside of the crate: types, private contracts and proofs name them, and no public contract reaches them.
pub mod Headers
pub mod Held
pub mod Images
pub mod Lines
