-- The lemmas of the proofs of `src/live/`; the proofs of `src/answers/` use those about lines too (LineMeanings, RecordsAreLines).
pub mod BeginningAndEnd
pub mod LanesOfTurn
pub mod LineMeanings
pub mod LinesAndDeliveries
pub mod ListsGrow
pub mod LivedOn
pub mod LogGrows
pub mod ReadsAndWrites
pub mod RecordsAreLines
pub mod ReorderedReport
pub mod RepliesGrow
pub mod Words
