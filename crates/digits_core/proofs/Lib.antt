pub mod DigitTexts
pub mod GtinFacts
pub mod Pasted
pub mod Spellings
pub mod Suppression
pub mod Weights
pub mod ZeroSuppression
pub mod Zeros
