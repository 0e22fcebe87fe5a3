-- Lemmas that the proofs of `src/answers/` cite, by subject; those of `src/live/` use PlainBytes too.
pub mod CellsServed
pub mod FeedsGrow
pub mod FirstLine
pub mod HeldBytes
pub mod LineFronts
pub mod LinesAsBrought
pub mod PlainBytes
pub mod ReadOn
pub mod ReadRows
pub mod RowsAsRead
pub mod TakenAddsUp
pub mod WidthFields
