-- The records of an input, how they are read one after another, and their faults.
pub mod Faults
pub mod Reading
pub mod Records
