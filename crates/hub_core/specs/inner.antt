-- Definitions for the inside of the crate: types, private contracts and proofs name them, and no public contract reaches them.
pub mod Accounting
pub mod CallingThread
pub mod Delivering
pub mod DrainedLists
pub mod Draining
pub mod Feeds
pub mod Fresh
pub mod Room
pub mod Rule
pub mod Sums
pub mod Traffics
pub mod Workers
