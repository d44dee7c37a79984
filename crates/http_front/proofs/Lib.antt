-- Lemmas on which the crate's own proofs rest.
pub mod Texts
