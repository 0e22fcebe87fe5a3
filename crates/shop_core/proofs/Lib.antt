pub mod BarFacts
pub mod CheckFacts
pub mod RowFacts
pub mod SaidFacts
