-- Lemmas, a file for each subject. What is proved of a function stands in the folder of its path.
pub mod FirstFeed
pub mod PieceFacts
pub mod WrittenPieces
