-- Lemmas, a file for each subject. What is proved of a function stands in the folder of its path.
pub mod Added
pub mod AnyPlace
pub mod AskedFacts
pub mod ErrorFacts
pub mod Flags
pub mod HubFacts
pub mod Matches
pub mod OptionRows
pub mod TakenWords
pub mod WalkKeeps
