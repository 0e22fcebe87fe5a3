-- The records of `lanes`: the widths of a row, and the rows of each lane.
pub mod Feeds
pub mod Widths
