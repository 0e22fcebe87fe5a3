mod LiveEnds
pub mod OneMeaning
