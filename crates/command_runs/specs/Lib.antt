-- What a run of a command reads, writes and refuses; `inner` is for the inside of the crate.
pub mod Columns
pub mod Faults
pub mod Grids
pub mod Laws
pub mod Printed
pub mod Runs
pub mod answers
pub mod commands
pub mod inner
pub mod live
