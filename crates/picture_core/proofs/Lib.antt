pub mod BelowFacts
pub mod KeptFacts
pub mod Products
pub mod RunsOfDots
pub mod SayingTheSame
pub mod TermsFacts
