-- Lemmas, a file for each subject. What is proved of a function stands in the folder of its path.
mod CodingFacts
mod LinkFacts
mod OneKeyPart
pub mod OneMessage
pub mod SpelledUpce
pub mod TextsCutAtByte
pub mod UpceDigits
