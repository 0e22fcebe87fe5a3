-- The lemmas of the proofs of `src/print/`.
pub mod LabelLinesGrow
