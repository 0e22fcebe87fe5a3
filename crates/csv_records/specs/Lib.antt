-- What records mean to each command, and the lines that answer them; `inner` is for the inside of the crate.
pub mod Laws
pub mod check
pub mod inner
pub mod input
pub mod lanes
pub mod print
