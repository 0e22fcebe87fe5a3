pub mod Ean13Facts
pub mod Ean8Facts
pub mod Itf14Facts
pub mod UpceReading
