-- The lemmas of the proofs of `src/input/`.
pub mod TwoFields
