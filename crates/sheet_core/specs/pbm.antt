pub mod Grammar
pub mod Headers
pub mod Images
pub mod Refusals
pub mod Rows
