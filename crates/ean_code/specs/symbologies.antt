-- The symbologies that encode a GTIN, each in a file.
pub mod Ean13
pub mod Ean8
pub mod Itf14
pub mod UpcE
