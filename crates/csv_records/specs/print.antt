-- The records of `print`.
pub mod Labels
