-- The records of `check`.
pub mod Checks
