-- Definitions, a file for each subject.
pub mod Events
pub mod Lines
