-- The lemmas of the proofs of `src/check/`.
pub mod CheckLinesGrow
