-- Definitions for the inside of the crate: types, private contracts and proofs name them, and no public contract reaches them.
pub mod Cutting
pub mod FirstRuns
pub mod Kept
pub mod Limits
pub mod Parts
pub mod Place
pub mod Reading
pub mod RunLanes
pub mod Searches
pub mod Stages
