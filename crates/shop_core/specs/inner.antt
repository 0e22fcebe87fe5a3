-- Definitions for the inside of the crate: private contracts and proofs name them, and no public contract reaches them.
pub mod Edges
