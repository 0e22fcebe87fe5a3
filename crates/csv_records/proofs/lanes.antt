-- The lemmas of the proofs of `src/lanes/`.
pub mod BlockLanes
pub mod BlockSteps
pub mod Capped
pub mod DigitWidths
pub mod FieldFaults
pub mod FieldWords
pub mod FineLanes
pub mod FirstWidth
pub mod Halves
pub mod KeptLanes
pub mod Lanes16
pub mod PlaceTable
pub mod ShortWords
