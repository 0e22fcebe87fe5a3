-- Definitions for the inside of the crate: types, private contracts and proofs name them, and no public contract reaches them.
pub mod AnswerLines
pub mod Buffers
pub mod Came
pub mod CellRows
pub mod Finish
pub mod HeldInputs
pub mod Lines
pub mod LiveEnds
pub mod Meaning
pub mod NextNumbers
pub mod Prints
pub mod RowReaders
pub mod ServedCells
pub mod ServedRows
pub mod Stops
pub mod Texts
pub mod Turns
