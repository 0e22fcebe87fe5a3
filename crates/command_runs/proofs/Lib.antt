-- Lemmas that the proofs of functions cite, by subject. `answers.antt` and `live.antt` list those of the modules `answers` and `live`.
pub mod BufferedIsTaken
pub mod CellReads
pub mod CellsGiven
pub mod CheckOnce
pub mod ColumnsByPlace
pub mod FewEnough
pub mod HowLanesEnds
pub mod HowRunsEnd
pub mod HowScanEnds
pub mod LabelReadings
pub mod LanesOnce
pub mod ListPlaces
pub mod ListsBeside
pub mod PrintOnce
pub mod PrintedAnswers
pub mod ScanOfPrinted
pub mod ToldFaults
