pub mod Arguments
pub mod Asking
pub mod Faults
pub mod Grids
pub mod Laws
pub mod Numbers
pub mod commands
pub mod inner
