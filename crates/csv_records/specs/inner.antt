-- Definitions for the inside of the crate: types, private contracts and proofs name them, and no public contract reaches them.
pub mod FrontWidths
pub mod Kept
pub mod LaneValues
pub mod Refusals
