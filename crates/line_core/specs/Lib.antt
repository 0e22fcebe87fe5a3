pub mod Codes
pub mod Digits
pub mod Ends
pub mod Lights
pub mod Pairs
pub mod Symbols
