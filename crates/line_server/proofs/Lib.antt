-- Lemmas that proofs of a server cite.
pub mod Rounds
