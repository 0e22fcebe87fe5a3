pub mod Drawings
pub mod Under
pub mod inner
