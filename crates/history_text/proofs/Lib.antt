-- Lemmas that several proofs share.
pub mod Exporting
pub mod AnswerLines
