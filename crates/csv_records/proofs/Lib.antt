-- Lemmas, a file for each subject. What is proved of a function stands in the folder of its path.
pub mod Decimals
pub mod FirstFault
pub mod MessageWidths
pub mod OneCheckLine
pub mod Reaching
pub mod RecordsReadFirst
mod UpceMessages
