-- Definitions for the inside of the crate: types, private contracts and proofs name them, and no public contract reaches them.
pub mod Days
pub mod Elements
pub mod Families
pub mod Growing
pub mod Listings
pub mod PartTests
pub mod Reading
pub mod Table
pub mod Walks
